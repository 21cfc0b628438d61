-- From the run of any files to that of known ones.
use Rattle.std.proofs.Common.{◌≡◌, inl, inr, Bool, false, ℕ, List, [], ◌∷◌, codes, Some, None, refl, sym, subst, ap, ◌∙◌, arith}
use Rattle.yspec_wide.specs.Language.{core}
use Rattle.yspec_run.specs.Output.{Besides, Outcome, Request, files_of, outcome, plainly, validate}
use Rattle.yspec_run.specs.Lines.{outcome_by}
use Rattle.ybase_output.specs.Writing.{Side}
use Rattle.clap.proofs.OnLiterals.{clap_on_literals}
use Rattle.yapp_words.specs.Command.{asked_in, asks_reasons, folders_in, refusals}
use Rattle.yapp_words.specs.Running.{End}
use Rattle.ybase_talk.specs.Talk.{Party}
use Rattle.yapp.specs.Searching.{DoesIn}
use Rattle.yapp.specs.Sessions.{Does}
use Rattle.yspec_opening.specs.Opening.{Asked, report}
use Rattle.yapp.specs.Files.{Answered, Contents, FileAnswers, IsOutcome, Store, WereRead, unread_in}
use Rattle.program_tests.specs.Known.{IsKnown, contents_in, told_in, validate_words}
use Rattle.yspec.specs.text.Text.{Text}

pub are_taken : refusals validate_words ≡ []
unfolding clap_on_literals
are_taken = refl

pub ask_for : asked_in validate_words ≡ report false (validate core plainly (codes "d.json") (codes "p.yang" ∷ []))
unfolding clap_on_literals
ask_for = refl

pub name_no_folder : folders_in validate_words ≡ []
unfolding clap_on_literals
name_no_folder = refl

pub ask_no_reasons : asks_reasons validate_words ≡ false
unfolding clap_on_literals
ask_no_reasons = refl

-- files of which none failed answered what they contain
known_answers : (names : List Text) (texts : List (List ℕ)) (answers : FileAnswers) → Answered (told_in names texts) (codes "p.yang" ∷ codes "d.json" ∷ []) answers
    → unread_in answers ≡ 0 → answers ≡ told_in names texts (codes "p.yang") ∷ told_in names texts (codes "d.json") ∷ []
known_answers names texts [] answered none = absurd answered
known_answers names texts (None ∷ answers) answered none = absurd (omega (arith, none))
known_answers names texts (Some a ∷ []) answered none = absurd answered.1
known_answers names texts (Some a ∷ None ∷ answers) answered none = absurd (omega (arith, none))
known_answers names texts (Some a ∷ Some b ∷ []) answered none =
    ap (λ (bytes : List ℕ). Some bytes ∷ Some b ∷ []) (sym answered.0)
    ∙ ap (λ (bytes : List ℕ). Some (contents_in names texts (codes "p.yang")) ∷ Some bytes ∷ []) (sym answered.1.0)
known_answers names texts (Some a ∷ Some b ∷ answer ∷ answers) answered none = absurd answered.1.1

-- under the core nothing more is said
all_judged : (stop : Besides) (answers : FileAnswers) → outcome_by false stop (validate core plainly (codes "d.json") (codes "p.yang" ∷ [])) answers
    ≡ outcome (validate core plainly (codes "d.json") (codes "p.yang" ∷ [])) answers
unfolding outcome outcome_by
all_judged stop answers = refl

pub is_known : (before after : Store) (request : Request) (names : List Text) (texts : List (List ℕ)) (o : Outcome) → before.contents ≡ told_in names texts
    → after.failures ≡ before.failures → request ≡ validate core plainly (codes "d.json") (codes "p.yang" ∷ []) → IsOutcome false before after request o → IsKnown names texts o
is_known before after request names texts o tells same asked (inl came) =
    let read = subst (λ (r : Request). WereRead before after (files_of r) came.1) asked came.2 in
    let none : unread_in came.1 ≡ 0 = omega (arith, read.failures, same) in
    let answered = subst (λ (contents : Contents). Answered contents (codes "p.yang" ∷ codes "d.json" ∷ []) came.1) tells read.answered in
    inl (came.3 ∙ ap (λ (r : Request). outcome_by false came.0 r came.1) asked ∙ all_judged came.0 came.1
    ∙ ap (outcome (validate core plainly (codes "d.json") (codes "p.yang" ∷ []))) (known_answers names texts came.1 answered none))
is_known before after request names texts o tells same asked (inr none) = inr none.1

pub told_once : (folders : List Text) (before after : Store) (asked : Asked) (request : Request) (given wanted : Bool) (caller caller_after : Party) (output output_after errors errors_after : Side) (end : End)
    → folders ≡ [] → asked ≡ report false request → given ≡ wanted → DoesIn folders before after asked given caller caller_after output output_after errors errors_after end
    → Does before after (report false request) wanted caller caller_after output output_after errors errors_after end
told_once folders before after asked request given wanted caller caller_after output output_after errors errors_after end none is reasons does =
    subst (λ (b : Bool). Does before after (report false request) b caller caller_after output output_after errors errors_after end) reasons
    (subst (λ (a : Asked). Does before after a given caller caller_after output output_after errors errors_after end) is
    (subst (λ (fs : List Text). DoesIn fs before after asked given caller caller_after output output_after errors errors_after end) none does))

-- A run that writes to one side alone.
use Rattle.std.proofs.Common.{◌≡◌, inl, inr, codes, ℕ, Bool, true, false, List, [], ◌∷◌, ◌++◌, ap, ap₂, sym, ◌∙◌, refl, string_bytes, subst, length, take}
use Rattle.yspec_run.specs.Output.{Besides, Outcome, Printed, Request, SavedFile, as_json_of, aside_where, nothing, object_parts, printed, printed_with, told_too}
use Rattle.yspec_run.specs.Lines.{outcome_by, said_by}
use Rattle.yspec_run.specs.Unjudged.{note_parts, with_note}
use Rattle.std.proofs.lemmas.List.{append-nil}
use Rattle.yspec_run.specs.Part.{Part, plain, spelled, spelled_part}
use Rattle.std.specs.Prelude.{Result, Ok, Err, IsErr, is_ok, if◌then◌else◌}
use Rattle.ybase_output.specs.Writing.{Broke, Side, Writes, Wrote}
use Rattle.yapp_words.specs.Running.{Brings, End, Ends, WritesBoth, broken, ended, memory_told, well, with_status, without_memory}
use Rattle.std.specs.Prelude.{Option, Some, None, option_map}
use Rattle.yspec_run.specs.RefusalData.{object_line}
use Rattle.ysay_json.specs.RefusalData.{Refused, refused_text}
use Rattle.yspec.specs.text.Text.{Text}
use Rattle.yapp_report.specs.Failing.{besides_in, outcome_of, reported, unsaid}
use Rattle.yapp.specs.Files.{IsFound, IsOutcome, Store, came_to, found_as, said_besides}
use Rattle.yapp.specs.Telling.{Tells, object_bytes, printed_so}
use Rattle.yapp.specs.declared.unjudged.Found.{Found}
use Rattle.yapp_report.specs.declared.failure.Failure.{Failure}
use Rattle.yapp_report.specs.declared.report.Report.{Report}
use Rattle.yapp_report.specs.declared.report.Report.TheVariants as reports
use Rattle.yapp_report.specs.declared.failure.Failure.TheVariants as failures
use Rattle.std.proofs.Math.Seq.{take-length}
use Rattle.yapp_report.proofs.PartLemmas.{one_plain}
use Rattle.ybase_output.proofs.WritingLemmas.{broke_first, broke_same, broke_second, wrote_both, wrote_none, wrote_same}

-- a status alone ends a run well that writes no file
well_by : (o : Printed) (result : ℕ) → o.saved ≡ None → result ≡ o.status → with_status result ≡ well o
well_by o result unsaved is = ap with_status is ∙ ap (ended o.status) (sym unsaved)

pub on_output : (output output_after errors : Side) (o : Printed) (result : ℕ) (end : End) → o.errors ≡ [] → o.saved ≡ None
    → Ends output output_after o.output o.status result → end ≡ with_status result → Brings output output_after errors errors o end
on_output output output_after errors o result end none unsaved (inl all) is =
    inl (all.0, wrote_same errors errors [] o.errors (sym none) (wrote_none errors), is ∙ well_by o result unsaved all.1)
on_output output output_after errors o result end none unsaved (inr broke) is = inr (inl (0, broke.0, wrote_none errors, is ∙ ap with_status broke.1))

pub on_errors : (output errors errors_after : Side) (o : Printed) (result : ℕ) (end : End) → o.output ≡ [] → o.saved ≡ None
    → Ends errors errors_after o.errors o.status result → end ≡ with_status result → Brings output output errors errors_after o end
on_errors output errors errors_after o result end none unsaved (inl all) is =
    inl (wrote_same output output [] o.output (sym none) (wrote_none output), all.0, is ∙ well_by o result unsaved all.1)
on_errors output errors errors_after o result end none unsaved (inr broke) is = inr (inr (0, wrote_none output, broke.0, is ∙ ap with_status broke.1))

-- what ends with the status of a failure whether its text is written or not
pub four : (a b : Side) (bytes : List ℕ) (result : ℕ) → Ends a b bytes 4 result → result ≡ 4
four a b bytes result (inl all) = all.1
four a b bytes result (inr broke) = broke.1

-- a text that is written alone ends a run
pub ends : {X E : Type 0} → (a b : Side) (bytes : List ℕ) (status result : ℕ) (r : Result X E) → Writes a b bytes r
    → result ≡ (if is_ok r then status else 4) → Ends a b bytes status result
ends a b bytes status result (Ok x) w e = inl (w, e)
ends a b bytes status result (Err x) w e = inr (w, e)

-- ---- what the kit and the system say besides

nothing_either : (b : Bool) → (if b then [] else []) ≡ codes ""
nothing_either true = refl
nothing_either false = refl

pub nothing_besides : (besides : Besides) (with_reasons : Bool) (o : Outcome) → o.aside ≡ nothing → printed_with besides with_reasons o ≡ printed with_reasons o
nothing_besides besides with_reasons o none =
    let p = printed with_reasons o in
    ap (λ (said : List ℕ). record p { errors = p.errors ++ said }) (ap (aside_where with_reasons besides) none ∙ nothing_either with_reasons)
    ∙ ap (λ (errors : List ℕ). record p { errors = errors }) (append-nil p.errors)

report_aside : (r : Report) → (reported r).aside ≡ nothing
report_aside (reports.Explanations explanations) = refl
report_aside (reports.Nodes count) = refl
report_aside (reports.Diagram schema shown) = refl
report_aside (reports.Diagrams schema) = refl
report_aside (reports.Document r) = refl
report_aside (reports.Edited e) = refl

-- so of reports, with what is said of conditions
pub found_alike : (besides : Besides) (with_reasons : Bool) (output output_after errors errors_after : Side) (f : Found) (end : End)
    → Brings output output_after errors errors_after (printed with_reasons (found_as f)) end
    → Brings output output_after errors errors_after (printed_with besides with_reasons (found_as f)) end
found_alike besides with_reasons output output_after errors errors_after f end brings =
    subst (λ (p : Printed). Brings output output_after errors errors_after p end) (sym (nothing_besides besides with_reasons (found_as f) (report_aside f.report))) brings

-- ---- what is told

no_file : (failure : Failure) → (outcome_of failure).saved ≡ None
no_file (failures.Unread name cause) = refl
no_file (failures.Text name code line hint jump) = refl
no_file (failures.Compile name code line hint jump) = refl
no_file (failures.Document name schema code place hint stop jump) = refl
no_file (failures.Repeated name schema place hint jump) = refl
no_file (failures.NoModule name) = refl
no_file (failures.NoCode word) = refl
no_file failures.Memory = refl

-- both sides are written, the error side first
pub both_end : {X E : Type 0} → (output output_after errors errors_after : Side) (o : Printed) (end : End) (r : Result X E)
    → WritesBoth output output_after errors errors_after o r → end ≡ (if is_ok r then well o else broken)
    → Brings output output_after errors errors_after o end
both_end output output_after errors errors_after o end (Ok x) w e = inl (w.0, w.1, e)
both_end output output_after errors errors_after o end (Err x) (inl w) e = inr (inl (length o.errors, w.0, wrote_same errors errors_after o.errors (take (length o.errors) o.errors) (sym (take-length o.errors)) w.1, e))
both_end output output_after errors errors_after o end (Err x) (inr w) e =
    inr (inr (0, subst (λ side. Wrote output side []) (sym w.0) (wrote_none output), w.1, e))

-- the end of what was told
pub end_is : {X E : Type 0} → (o : Printed) (end : End) (status : ℕ) (saved : Option SavedFile) (r : Result X E)
    → end ≡ (if is_ok r then ended status saved else broken) → status ≡ o.status → saved ≡ o.saved
    → end ≡ (if is_ok r then well o else broken)
end_is o end status saved r is status_is saved_is =
    is ∙ ap₂ (λ (s : ℕ) (f : Option SavedFile). if is_ok r then ended s f else broken) status_is saved_is

-- the output alone, where nothing is due on the error side
pub both_of_output : {X E : Type 0} → (output output_after errors : Side) (o : Printed) (r : Result X E) → o.errors ≡ []
    → Writes output output_after o.output r → WritesBoth output output_after errors errors o r
both_of_output output output_after errors o (Ok x) none w = (w, wrote_same errors errors [] o.errors (sym none) (wrote_none errors))
both_of_output output output_after errors o (Err x) none w = inl (w, wrote_same errors errors [] o.errors (sym none) (wrote_none errors))

-- the output behind the error side
pub both_after : {X E : Type 0} → (output output_after errors errors_after : Side) (o : Printed) (r : Result X E) → Wrote errors errors_after o.errors
    → Writes output output_after o.output r → WritesBoth output output_after errors errors_after o r
both_after output output_after errors errors_after o (Ok x) first w = (w, first)
both_after output output_after errors errors_after o (Err x) first w = inl (w, first)

-- the error side broke, and nothing was written on the output
pub both_broken : {X E : Type 0} → (output errors errors_after : Side) (o : Printed) (r : Result X E) → IsErr r → Broke errors errors_after o.errors
    → WritesBoth output output errors errors_after o r
both_broken output errors errors_after o (Ok x) failed broken = cc
both_broken output errors errors_after o (Err x) failed broken = inr (refl, broken)

-- ---- what is said of conditions, ahead of all else

plain_is : (with_reasons : Bool) (t : Text) → t ≡ spelled_part with_reasons (plain t)
plain_is true t = sym (append-nil t)
plain_is false t = sym (append-nil t)

note_spelled : (with_reasons : Bool) (note : Text) (parts : List Part) → note ++ spelled with_reasons parts ≡ spelled with_reasons (note_parts note ++ parts)
note_spelled with_reasons [] parts = refl
note_spelled with_reasons (c ∷ cs) parts = ap (λ (t : Text). t ++ spelled with_reasons parts) (plain_is with_reasons (c ∷ cs))

module _ (errors errors_after : Side) (with_reasons : Bool) (note : Text) (o : Outcome) where
  -- it was written, and then what was found
  pub noted : {X E : Type 0} → (now output output_after : Side) (r : Result X E) → Wrote errors now note
      → WritesBoth output output_after now errors_after (printed with_reasons o) r
      → WritesBoth output output_after errors errors_after (printed with_reasons (with_note note o)) r
  noted now output output_after (Ok x) first w =
      (w.0, wrote_same errors errors_after _ _ (note_spelled with_reasons note o.errors) (wrote_both errors now errors_after note (spelled with_reasons o.errors) first w.1))
  noted now output output_after (Err e) first (inl w) =
      inl (w.0, wrote_same errors errors_after _ _ (note_spelled with_reasons note o.errors) (wrote_both errors now errors_after note (spelled with_reasons o.errors) first w.1))
  noted now output output_after (Err e) first (inr w) =
      inr (w.0, broke_same errors errors_after _ _ (note_spelled with_reasons note o.errors) (broke_second errors now errors_after note (spelled with_reasons o.errors) first w.1))

  -- it wasn't
  pub not_noted : {X E : Type 0} → (output : Side) (r : Result X E) → IsErr r → Broke errors errors_after note
      → WritesBoth output output errors errors_after (printed with_reasons (with_note note o)) r
  not_noted output r failed broken = both_broken output errors errors_after (printed with_reasons (with_note note o)) r failed
      (broke_same errors errors_after _ _ (note_spelled with_reasons note o.errors) (broke_first errors errors_after note (spelled with_reasons o.errors) broken))

-- ---- parts

-- of want of memory nothing is said besides
pub memory_either : (besides : Besides) (with_reasons : Bool) (output output_after errors errors_after : Side) (end : End)
    → Brings output output_after errors errors_after memory_told end
    → Brings output output_after errors errors_after (printed_with besides with_reasons without_memory) end
memory_either besides true output output_after errors errors_after end brings = brings
memory_either besides false output output_after errors errors_after end brings = brings

-- ---- objects

object_printed : (with_reasons : Bool) (told : Option Refused) → object_bytes (option_map refused_text told) ≡ spelled with_reasons (object_parts told ++ [])
object_printed with_reasons None = refl
object_printed with_reasons (Some r) = one_plain with_reasons (object_line r)

no_parts : (failure : Failure) → (outcome_of failure).output ≡ []
no_parts (failures.Unread name cause) = refl
no_parts (failures.Text name code line hint jump) = refl
no_parts (failures.Compile name code line hint jump) = refl
no_parts (failures.Document name schema code place hint stop jump) = refl
no_parts (failures.Repeated name schema place hint jump) = refl
no_parts (failures.NoModule name) = refl
no_parts (failures.NoCode word) = refl
no_parts failures.Memory = refl

-- a failure prints its object, where that is wanted, and nothing else on the output
failure_printed : (with_reasons as_json : Bool) (failure : Failure)
    → printed_so with_reasons failure (if as_json then option_map refused_text (outcome_of failure).told else None)
    ≡ printed_with (besides_in failure) with_reasons (told_too as_json (outcome_of failure))
failure_printed with_reasons false failure = let p = printed_with (besides_in failure) with_reasons (outcome_of failure) in
    ap (λ (output : List ℕ). record p { output = output }) (ap (spelled with_reasons) (sym (no_parts failure)))
failure_printed with_reasons true failure =
    let o = outcome_of failure in
    let p = printed_with (besides_in failure) with_reasons o in
    ap (λ (output : List ℕ). record p { output = output })
    (object_printed with_reasons o.told ∙ ap (λ (parts : List Part). spelled with_reasons (object_parts o.told ++ parts)) (sym (no_parts failure)))

-- a failure that is written with the object that was made of it
pub failure_tells : {X E : Type 0} → (with_reasons as_json : Bool) (output output_after errors errors_after : Side) (failure : Failure) (object : Option Text)
    (status : ℕ) (end : End) (r : Result X E) → object ≡ (if as_json then option_map refused_text (outcome_of failure).told else None)
    → WritesBoth output output_after errors errors_after (printed_so with_reasons failure object) r
    → end ≡ (if is_ok r then with_status status else broken) → status ≡ (outcome_of failure).status
    → Tells output output_after errors errors_after with_reasons as_json (besides_in failure) (outcome_of failure) end
failure_tells with_reasons as_json output output_after errors errors_after failure object status end r made writes is status_is =
    let o = printed_so with_reasons failure object in
    inl (subst (λ (p : Printed). Brings output output_after errors errors_after p end)
    (ap (printed_so with_reasons failure) made ∙ failure_printed with_reasons as_json failure)
    (both_end output output_after errors errors_after o end r writes (end_is o end status None r is status_is (sym (no_file failure)))))

-- a report has no object, whatever is said of conditions
report_told : (as_json : Bool) (note : Text) (r : Report) → told_too as_json (with_note note (reported r)) ≡ with_note note (reported r)
report_told false note r = refl
report_told true note (reports.Explanations explanations) = refl
report_told true note (reports.Nodes count) = refl
report_told true note (reports.Diagram schema shown) = refl
report_told true note (reports.Diagrams schema) = refl
report_told true note (reports.Document r) = refl
report_told true note (reports.Edited e) = refl

pub found_tells : (with_reasons as_json : Bool) (output output_after errors errors_after : Side) (besides : Besides) (f : Found) (end : End)
    → Brings output output_after errors errors_after (printed with_reasons (found_as f)) end
    → Tells output output_after errors errors_after with_reasons as_json besides (found_as f) end
found_tells with_reasons as_json output output_after errors errors_after besides f end brings =
    inl (subst (λ (o : Outcome). Brings output output_after errors errors_after (printed_with besides with_reasons o) end) (sym (report_told as_json (string_bytes f.note) f.report))
    (found_alike besides with_reasons output output_after errors errors_after f end brings))

pub told_of : (with_reasons as_json : Bool) (output output_after errors errors_after : Side) (found given : Result Found Failure) (end : End) → found ≡ given
    → Tells output output_after errors errors_after with_reasons as_json (said_besides given) (came_to given) end
    → Tells output output_after errors errors_after with_reasons as_json (said_besides found) (came_to found) end
told_of with_reasons as_json output output_after errors errors_after found given end is tells =
    subst (λ (r : Result Found Failure). Tells output output_after errors errors_after with_reasons as_json (said_besides r) (came_to r) end) (sym is) tells

-- ---- what a run comes to

memory_alone : (as_json : Bool) → told_too as_json without_memory ≡ without_memory
memory_alone true = refl
memory_alone false = refl

-- an outcome of a request that goes out on the two sides
abbrev Comes : Bool → Store → Store → Request → Side → Side → Side → Side → Bool → End → Type 0
Comes by_lines before after request output output_after errors errors_after with_reasons end =
    (o : Outcome) × (besides : Besides) × IsOutcome by_lines before after request o × Brings output output_after errors errors_after (printed_with besides with_reasons o) end

comes_so : (by_lines : Bool) (before after : Store) (request : Request) (output output_after errors errors_after : Side) (with_reasons as_json : Bool) (besides : Besides) (o : Outcome) (end : End)
    → as_json ≡ as_json_of request → IsFound by_lines before after request o → Tells output output_after errors errors_after with_reasons as_json besides o end
    → Comes by_lines before after request output output_after errors errors_after with_reasons end
unfolding outcome_by
comes_so by_lines before after request output output_after errors errors_after with_reasons as_json besides o end same (inl found) (inl brings) = (
  told_too as_json o,
  besides,
  inl (found.0, found.1, found.2, ap (told_too as_json) found.3 ∙ ap (λ (b : Bool). told_too b (said_by by_lines found.0 request found.1)) same),
  brings,
)
comes_so by_lines before after request output output_after errors errors_after with_reasons as_json besides o end same (inr none) (inl brings) =
    (told_too as_json o, besides, inr (inl none.0, ap (told_too as_json) none.1 ∙ memory_alone as_json), brings)
comes_so by_lines before after request output output_after errors errors_after with_reasons as_json besides o end same (inl found) (inr lacks) = (
  without_memory,
  unsaid,
  inr (inr (sym same ∙ lacks.0, (found.1, found.2)), refl),
  memory_either unsaid with_reasons output output_after errors errors_after end lacks.1,
)
comes_so by_lines before after request output output_after errors errors_after with_reasons as_json besides o end same (inr none) (inr lacks) =
    (without_memory, unsaid, inr (inl none.0, refl), memory_either unsaid with_reasons output output_after errors errors_after end lacks.1)

pub run_comes : (by_lines : Bool) (before after : Store) (asked request : Request) (output output_after errors errors_after : Side) (given wanted as_json : Bool) (besides : Besides) (o : Outcome) (end : End)
    → asked ≡ request → given ≡ wanted → as_json ≡ as_json_of asked → IsFound by_lines before after asked o
    → Tells output output_after errors errors_after given as_json besides o end → Comes by_lines before after request output output_after errors errors_after wanted end
run_comes by_lines before after asked request output output_after errors errors_after given wanted as_json besides o end e reasons same found tells =
    comes_so by_lines before after request output output_after errors errors_after wanted as_json besides o end (same ∙ ap as_json_of e)
    (subst (λ (r : Request). IsFound by_lines before after r o) e found)
    (subst (λ (b : Bool). Tells output output_after errors errors_after b as_json besides o end) reasons tells)

-- ---- the code that says most of a refused line

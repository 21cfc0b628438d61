-- What a run says of the conditions that it read and didn't judge, ahead of all else on the error side (RFC 7950, 7.5.3 and
-- 7.21.5).
use Rattle.std.specs.Prelude.{ℕ, ◌+◌, ◌++◌, ◌==◌, ◌||◌, Bool, List, [], ◌∷◌, codes, decimal, Option, if◌then◌else◌, nat_le}
use Rattle.yspec.specs.Forest.{Forest, end, node}
use Rattle.yspec.specs.text.Text.{Text, is_text}
use Rattle.yspec.specs.text.Statement.{Statement}
use Rattle.yspec_wide.specs.Language.{Language, Unjudged, core, rfc}
use Rattle.yspec_run.specs.Output.{Outcome, Request, explain, compile, draw, draw_all, validate, edit, as_json_of, files_of, performed, told_too, with_files, with_modules}
use Rattle.yspec_run.specs.Part.{Part, plain}

abbrev pub called_at : Text → Statement → ℕ
called_at keyword s = if is_text s.keyword keyword then 1 else 0

-- how many statements of a row have a keyword, with those below them
abbrev pub statements_called : Text → Forest Statement → ℕ
statements_called keyword end = 0
statements_called keyword (node s below after) =
    called_at keyword s + (statements_called keyword below + statements_called keyword after)

-- those that aren't judged
abbrev pub unjudged_called : Bool → Text → Forest Statement → ℕ
unjudged_called unjudged keyword modules = if unjudged then statements_called keyword modules else 0

-- `not judged: 12 must, 3 when`, of each kind that there is
abbrev pub note_by : ℕ → ℕ → Text
note_by musts whens =
    if musts == 0 then (if whens == 0 then [] else codes "not judged: " ++ (decimal whens ++ codes " when\n"))
    else (if whens == 0 then codes "not judged: " ++ (decimal musts ++ codes " must\n")
    else codes "not judged: " ++ (decimal musts ++ (codes " must, " ++ (decimal whens ++ codes " when\n"))))

abbrev pub note_of : Unjudged → Forest Statement → Text
note_of unjudged modules = note_by (unjudged_called unjudged.musts (codes "must") modules) (unjudged_called unjudged.whens (codes "when") modules)

-- ---- outcomes that say it: those of runs that come to the end, be there faults or not

abbrev pub note_parts : Text → List Part
note_parts [] = []
note_parts (c ∷ cs) = plain (c ∷ cs) ∷ []

abbrev pub with_note : Text → Outcome → Outcome
with_note note o = record o { errors = note_parts note ++ o.errors }

abbrev pub is_any : Unjudged → Bool
is_any unjudged = unjudged.musts || unjudged.whens

-- of the modules whose files come first
abbrev pub noted_by : Language → Unjudged → List Text → List (List ℕ) → Outcome → Outcome
noted_by language unjudged names contents o = if nat_le o.status 1
    then with_modules language names contents (λ modules files. with_note (note_of unjudged modules) o) else o

abbrev pub noted_of : Language → List Text → List (List ℕ) → Outcome → Outcome
noted_of core names contents o = o
noted_of (rfc wide) names contents o = if is_any wide.unjudged then noted_by (rfc wide) wide.unjudged names contents o else o

abbrev pub noted_for : Request → List (List ℕ) → Outcome → Outcome
noted_for (explain names) contents o = o
noted_for (compile language names) contents o = noted_of language names contents o
noted_for (draw language name names) contents o = noted_of language names contents o
noted_for (draw_all language names) contents o = noted_of language names contents o
noted_for (validate language options document names) contents o = noted_of language names contents o
noted_for (edit language options document script names) contents o = noted_of language names contents o

-- what a request comes to by the contents of its files, with that
abbrev pub said : Request → List (List ℕ) → Outcome
said request contents = noted_for request contents (performed request contents)

-- and by what its files answer
abbrev pub said_of : Request → List (Option (List ℕ)) → Outcome
said_of request answers = with_files (files_of request) answers (said request)

unfoldable pub outcome_said : Request → List (Option (List ℕ)) → Outcome
outcome_said request answers = told_too (as_json_of request) (said_of request answers)

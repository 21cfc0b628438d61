-- Worked examples: runs in which a module, a document or a line of a script is refused or a file can't be read, told as JSON.
use Rattle.std.specs.Prelude.{ℕ, true, ◌++◌, List, [], ◌∷◌, codes, Option, Some, None}
use Rattle.yspec.specs.text.Text.{Text}
use Rattle.yspec.specs.edit.Examples.{module_p}
use Rattle.yspec_wide.specs.Language.{core}
use Rattle.yspec_run.specs.Output.{Options, Printed, edit, told_as_json, validate}
use Rattle.yspec_examples.specs.Printing.{printed_by}

-- what is printed on both sides
abbrev pub both : ℕ → Text → Text → Printed
both status errors output = record { output = output; errors = errors; status = status; saved = None }

-- an object with an error's message and tag, and with these members behind its error-type
abbrev pub object_of : Text → Text → Text → Text
object_of message tag others = codes "{\"error-message\":\"" ++ (message ++ (codes "\",\"error-tag\":\"" ++ (tag
    ++ (codes "\",\"error-type\":\"application\"" ++ (others ++ codes "}\n")))))

-- what `validate --format json d.json m.yang` prints where the files answer so
abbrev pub told : List (Option Text) → Printed
told answers = printed_by (validate core told_as_json (codes "d.json") (codes "m.yang" ∷ [])) answers

-- the same of a document under module p
abbrev pub told_of : Text → Printed
told_of document = told (Some module_p ∷ Some document ∷ [])

-- the same where members are to come once
abbrev pub strictly_told : Text → Printed
strictly_told document = printed_by (validate core (record told_as_json { is_strict = true }) (codes "d.json") (codes "m.yang" ∷ []))
    (Some module_p ∷ Some document ∷ [])

-- what `edit --format json` prints of a document under module p by a script, with other options as they are
abbrev pub edited_told : Options → Text → Text → Printed
edited_told options document script =
    printed_by (edit core (record options { as_json = true }) (codes "d.json") (codes "s.txt") (codes "m.yang" ∷ []))
    (Some module_p ∷ Some document ∷ Some script ∷ [])

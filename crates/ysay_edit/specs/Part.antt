-- What is said of the value of an edit that is no JSON (E9), or doesn't fit the node that it is for (E10), as of a document
-- that is refused; and all that is said of an edit.
use Rattle.std.specs.Prelude.{ℕ, ◌==◌, ◌&&◌, ◌||◌, ◌++◌, Bool, true, false, not, List, [], ◌∷◌, codes, Option, Some, None, option_and_then, if◌then◌else◌}
use Rattle.std.specs.Option.{option_map_or}
use Rattle.serde_json.specs.Data.{Data, array}
use Rattle.yspec.specs.text.Text.{Text, begins, double_quote}
use Rattle.yspec.specs.schema.Schema.{Schema, Kind, child_written, children_of, has_value, is_many, module_at, node_at}
use Rattle.yspec.specs.document.Document.{Step, Tree, step_at}
use Rattle.yspec.specs.document.Reading.{Refusal, first_wrong, instance_visits, json_of}
use Rattle.yspec.specs.edit.EditText.{Edit, Path, create, replace, remove, move_to}
use Rattle.ysay_text.specs.Line.{shown}
use Rattle.ysay_refusal.specs.Place.{last_step, value_from}
use Rattle.ysay_edit.specs.Predicate.{said_of_predicates}
use Rattle.ysay_refusal.specs.Sentence.{said_at}
use Rattle.ysay_edit.specs.Now.{path_in, said_now}
use Rattle.ysay_edit.specs.Step.{said_of_path}

-- ---- values

-- the last step to a place below an instance of a node
abbrev pub step_below : ℕ → List Step → Step
step_below number steps = option_map_or (λ s. s) (last_step steps) (step_at number 1)

-- by the place at which what it is to hold is refused
abbrev pub of_place : Schema → ℕ → Data → Refusal → Text
of_place schema number d r = option_map_or (said_at schema r.code (Some (step_below number r.place)))
    (value_from schema (module_at schema (Some number)) r.place d) []

abbrev pub is_array : Data → Bool
is_array (array ds) = true
is_array _ = false

-- of an array, which an edit never takes for a list or a leaf-list: it is about one entry or item
abbrev pub alone_due : Kind → Text
alone_due kind = if has_value kind then codes "an array stands where an item's value is due: write the value alone."
    else codes "an array stands where an entry is due: write the object alone."

abbrev pub is_many_at : Schema → ℕ → Bool
is_many_at schema number = option_map_or (λ n. is_many n.kind) (node_at schema number) false

abbrev pub alone_at : Schema → ℕ → Text
alone_at schema number = option_map_or (λ n. alone_due n.kind) (node_at schema number) []

-- of one instance of the node of a number, by the refusal of what it is to hold
abbrev pub of_refusal : Schema → ℕ → Data → Refusal → Text
of_refusal schema number d r = if is_array d && is_many_at schema number then alone_at schema number else of_place schema number d r

-- what is refused of it, at a place that leads from there
abbrev pub refused_in : Schema → ℕ → Data → Option Refusal
refused_in schema number d =
    option_and_then (λ n. first_wrong (instance_visits schema n (children_of schema number) [] d)) (node_at schema number)

abbrev pub of_value : Schema → ℕ → Data → Text
of_value schema number d = option_map_or (of_refusal schema number d) (refused_in schema number d) []

-- whether a text may be meant as an object, an array, or a text of JSON
abbrev pub begins_json : Text → Bool
begins_json text = begins 123 text || (begins 91 text || begins double_quote text)

abbrev pub json_due : Text → Text
json_due text = if begins_json text then codes " isn't JSON." else codes " isn't JSON; a text stands in double quotes."

-- of a text that is no JSON
abbrev pub of_no_json : Text → Text
of_no_json text = shown text ++ json_due text

-- by the text of the value
abbrev pub of_text : Schema → ℕ → Text → Text
of_text schema number text = option_map_or (of_value schema number) (json_of text) []

-- ---- edits

-- the number of the node to which steps lead from a node or the top; none at the top, and where one leads to no child
abbrev pub number_below : Schema → Option ℕ → Path → Option ℕ
number_below schema parent [] = parent
number_below schema parent (s ∷ steps) =
    option_and_then (λ number. number_below schema (Some number) steps) (child_written schema parent s.name)

abbrev pub of_part : Schema → Path → Text → Text
of_part schema path text = option_map_or (λ number. of_text schema number text) (number_below schema None path) []

abbrev pub said_of_part : Schema → Edit → Text
said_of_part schema (create path text) = of_part schema path text
said_of_part schema (replace path text) = of_part schema path text
said_of_part schema (remove path) = []
said_of_part schema (move_to path position) = []

abbrev pub said_of_no_json : Edit → Text
said_of_no_json (create path text) = of_no_json text
said_of_no_json (replace path text) = of_no_json text
said_of_no_json (remove path) = []
said_of_no_json (move_to path position) = []

-- whether the last step names a list or a leaf-list
abbrev pub ends_in_many : Schema → Path → Bool
ends_in_many schema path = option_map_or (is_many_at schema) (number_below schema None path) false

-- a move of what is no entry and no item
abbrev pub moves_other : Schema → Edit → Bool
moves_other schema (create path text) = false
moves_other schema (replace path text) = false
moves_other schema (remove path) = false
moves_other schema (move_to path position) = not (ends_in_many schema path)

abbrev pub said_of_misplaced : Schema → Edit → Text
said_of_misplaced schema e = if moves_other schema e then codes "only an entry of a list or leaf-list is moved."
    else said_of_predicates schema e

-- whether an edit is refused by what is stored, or isn't
abbrev pub is_of_stored : ℕ → Bool
is_of_stored code = code == 4 || (code == 5 || (code == 6 || (code == 7 || code == 8)))

-- of an edit that is refused with this number, and what is stored now
abbrev pub said_of_edit : Schema → Tree → Edit → ℕ → Text
said_of_edit schema now e code = if code == 2 then said_of_path schema (path_in e)
    else (if code == 3 then said_of_misplaced schema e
    else (if code == 9 then said_of_no_json e
    else (if code == 10 then said_of_part schema e
    else (if is_of_stored code then said_now schema now e else []))))

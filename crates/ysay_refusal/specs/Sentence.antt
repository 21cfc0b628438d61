-- What is said of a document that is refused: of bytes that are no JSON (J1), of a member that isn't known or is in the form that
-- isn't due (J3, J4), of a value of another kind than is due (J5), and of a number that is no whole one of 64 bits (J6).
use Rattle.std.specs.Prelude.{ℕ, ◌==◌, ◌&&◌, ◌++◌, Bool, not, List, [], codes, is_some, Option, Some, None, if◌then◌else◌}
use Rattle.std.specs.Option.{option_map_or}
use Rattle.serde_json.specs.Data.{Data, null, boolean, number, string, array, object}
use Rattle.yspec.specs.text.Text.{Text}
use Rattle.yspec.specs.schema.Schema.{Schema, Kind, JsonForm, any_object, has_value, is_many, form_in, node_at}
use Rattle.yspec.specs.document.Document.{Step}
use Rattle.yspec.specs.document.Reading.{Refusal, json_of}
use Rattle.ysay_text.specs.Line.{shown}
use Rattle.ysay_refusal.specs.Member.{due_name, near_name, strange_member}
use Rattle.ysay_refusal.specs.NoJson.{said_of_no_json}
use Rattle.ysay_refusal.specs.Number.{of_number}
use Rattle.ysay_refusal.specs.Place.{last_step, number_after, value_at}

-- ---- J3 and J4; a name of a document stands in quotes, and is shown as a line of a text is

abbrev pub unknown_member : Text → Option Text → Text
unknown_member name None = codes "nothing called \"" ++ (shown name ++ codes "\" may stand here.")
unknown_member name (Some near) =
    codes "nothing called \"" ++ (shown name ++ (codes "\" may stand here; near it: " ++ (near ++ codes ".")))

abbrev pub other_member : Text → Option Text → Text
other_member name None = []
other_member name (Some due) = codes "here \"" ++ (shown name ++ (codes "\" is written " ++ (due ++ codes ".")))

-- of the members of a value below a node, or at the top
abbrev pub of_unknown : Schema → Option ℕ → Data → Text
of_unknown schema parent d =
    option_map_or (λ name. unknown_member name (near_name schema parent name)) (strange_member schema parent d) []

abbrev pub of_other : Schema → Option ℕ → Data → Text
of_other schema parent d =
    option_map_or (λ name. other_member name (due_name schema parent name)) (strange_member schema parent d) []

-- ---- J5

abbrev pub kind_of_value : Data → Text
kind_of_value null = codes "null"
kind_of_value (boolean b) = if b then codes "true" else codes "false"
kind_of_value (number n) = codes "a number"
kind_of_value (string s) = codes "a text"
kind_of_value (array ds) = codes "an array"
kind_of_value (object ms) = codes "an object"

abbrev pub wanted_by : JsonForm → Text
wanted_by any_object = codes "an object"
wanted_by _ = codes "a leaf's value"

-- what one instance of a node has
abbrev pub wanted_of_one : Kind → Text
wanted_of_one kind = if has_value kind then (if is_many kind then codes "an item's value" else wanted_by (form_in kind)) else codes "an object"

-- what a node wants: an array of all its entries or items, and at a position, or where there is one at most, one of them
abbrev pub wanted_kind : Kind → Bool → Text
wanted_kind kind is_one = if is_many kind && not is_one then codes "an array" else wanted_of_one kind

abbrev pub wanted_at : Schema → Step → Text
wanted_at schema step = option_map_or (λ n. wanted_kind n.kind (is_some step.position)) (node_at schema step.schema_number) []

abbrev pub of_kind : Schema → Option Step → Data → Text
of_kind schema None d = []
of_kind schema (Some step) d = kind_of_value d ++ (codes " stands where " ++ (wanted_at schema step ++ codes " is due."))

-- ---- all

-- of the value at the place of a refusal, by the last step to it
abbrev pub said_at : Schema → ℕ → Option Step → Data → Text
said_at schema code step d = if code == 3 then of_unknown schema (number_after step) d
    else (if code == 4 then of_other schema (number_after step) d
    else (if code == 5 then of_kind schema step d
    else (if code == 6 then of_number schema (number_after step) else [])))

-- of the refusal of a value
abbrev pub said_of_value : Schema → ℕ → List Step → Data → Text
said_of_value schema code steps d = option_map_or (said_at schema code (last_step steps)) (value_at schema steps d) []

-- of the refusal of bytes, by the value that they are, or by themselves where they are none
unfoldable pub said_of_refusal : Schema → List ℕ → Refusal → Text
said_of_refusal schema bytes r = option_map_or (said_of_value schema r.code r.place) (json_of bytes) (said_of_no_json bytes)

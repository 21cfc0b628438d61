-- The cases of a choice that have stored nodes (RFC 7950, 7.9).
use Rattle.std.specs.Prelude.{ℕ, ◌++◌, ◌&&◌, Bool, true, false, List, [], ◌∷◌, length, codes, Option, Some, None, if◌then◌else◌, nat_lt}
use Rattle.std.specs.List.{join_by}
use Rattle.std.specs.Option.{option_map_or}
use Rattle.yspec.specs.Forest.{Forest, end, node, joined_below}
use Rattle.yspec.specs.text.Text.{Text, is_text}
use Rattle.yspec.specs.schema.Schema.{SchemaNode, Kind, choice, is_data}
use Rattle.yspec.specs.document.Play.{stored_among}

abbrev pub is_choice : Kind → Bool
is_choice (choice default_case is_mandatory) = true
is_choice _ = false

-- the names of the cases that have a stored node
abbrev pub case_names : (ℕ → ℕ) → Forest SchemaNode → List Text
case_names stored end = []
case_names stored (node n below after) =
    (if nat_lt 0 (stored_among stored below) then n.name ∷ [] else []) ++ case_names stored after

-- whether there is more than one
abbrev pub has_several : (ℕ → ℕ) → Forest SchemaNode → Bool
has_several stored cases = nat_lt 1 (length (case_names stored cases))

abbrev pub is_choice_of : Text → SchemaNode → Bool
is_choice_of name n = is_choice n.kind && is_text name n.name

-- the cases of the first choice of a name that has several such cases, in a row and in the choices and cases there
abbrev pub conflicting_cases : (ℕ → ℕ) → Text → Forest SchemaNode → Option (Forest SchemaNode)
conflicting_cases stored name end = None
conflicting_cases stored name (node n below after) = joined_below (if is_data n.kind then None
    else (if is_choice_of name n && has_several stored below then Some below else conflicting_cases stored name below))
    (conflicting_cases stored name after)

abbrev pub listed : List Text → Text
listed names = join_by (λ name. name) (codes ", ") names

-- the names of the cases of that choice that have a stored node
abbrev pub stored_case_names : (ℕ → ℕ) → Text → Forest SchemaNode → Text
stored_case_names stored name children =
    option_map_or (λ cases. listed (case_names stored cases)) (conflicting_cases stored name children) []

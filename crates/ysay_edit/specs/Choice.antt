-- What is said of a name in the path of an edit that is a choice's or a case's: no path leads through them (RFC 7950, 7.9).
use Rattle.std.specs.Prelude.{ℕ, ◌++◌, codes, Option, Some, None, if◌then◌else◌}
use Rattle.yspec.specs.Forest.{Forest, end, node, first_of}
use Rattle.yspec.specs.text.Text.{Text, is_text}
use Rattle.yspec.specs.schema.Schema.{Schema, SchemaNode, Kind, choice, is_data, row_at}
use Rattle.ysay_refusal.specs.Member.{own_part}

abbrev pub passed_called : Kind → Text
passed_called (choice default_case is_mandatory) = codes "a choice"
passed_called _ = codes "a case"

-- what a node that no path leads through is called if it has this name, or else by what is found below it
abbrev pub passed_node : Text → SchemaNode → Option Text → Option Text
passed_node name n below = if is_data n.kind then None else (if is_text name n.name then Some (passed_called n.kind) else below)

-- what the first choice or case of a name is called in a row, those in one another included
abbrev pub passed_in : Text → Forest SchemaNode → Option Text
passed_in name end = None
passed_in name (node n below after) = first_of (passed_node name n (passed_in name below)) (passed_in name after)

-- the same below a node or at the top, of what stands behind the colon of a name
abbrev pub passed_at : Schema → Option ℕ → Text → Option Text
passed_at schema parent name = passed_in (own_part name) (row_at schema parent)

abbrev pub passed_through : Text → Text → Text
passed_through name called = name ++ (codes " is " ++ (called ++ codes ": leave it out of the path."))

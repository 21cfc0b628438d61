-- Which member of an object isn't known, or is in the form that isn't due, and which may have been meant (RFC 7951, 4).
-- What may stand in the object are the children of a node of the schema, or the top nodes; choices and cases are passed
-- through.
use Rattle.std.specs.Prelude.{ℕ, ◌+◌, ◌==◌, List, drop, find, map, position, is_some, Option, Some, None, option_and_then, option_map, if◌then◌else◌}
use Rattle.std.specs.Option.{option_map_or}
use Rattle.serde_json.specs.Data.{Data, Members, no_members, member}
use Rattle.serde_json.specs.Find.{as_object}
use Rattle.yspec.specs.Forest.{first_of, row}
use Rattle.yspec.specs.text.Text.{Text, colon, is_text}
use Rattle.yspec.specs.schema.Schema.{Schema, SchemaNode, child_written, data_row, module_at, other_name, row_at, written_name}
use Rattle.ysay_text.specs.Near.{nearest}

-- ---- the member

-- the name of the first member, in byte order of names, that is no child's
abbrev pub strange_in : Schema → Option ℕ → Members → Option Text
strange_in schema parent no_members = None
strange_in schema parent (member name d ms) =
    if is_some (child_written schema parent name) then strange_in schema parent ms else Some name

abbrev pub strange_member : Schema → Option ℕ → Data → Option Text
strange_member schema parent d = option_and_then (strange_in schema parent) (as_object d)

-- ---- what may stand there

abbrev pub nodes_below : Schema → Option ℕ → List SchemaNode
nodes_below schema parent = row (data_row (row_at schema parent))

-- the name, of those of some nodes, that is due in place of one in the other form below a node of a module, or at the top
abbrev pub due_among : Schema → Option ℕ → List SchemaNode → Text → Option Text
due_among schema own nodes name = option_map (written_name schema own) (find (λ n. is_text name (other_name schema own n)) nodes)

abbrev pub due_name : Schema → Option ℕ → Text → Option Text
due_name schema parent name = due_among schema (module_at schema parent) (nodes_below schema parent) name

-- ---- what may have been meant

-- what stands behind the first colon of a name, where it has one
abbrev pub own_part : Text → Text
own_part name = option_map_or (λ at. drop (at + 1) name) (position (λ x. x == colon) name) name

-- the nearest of the names of nodes, without their modules', and how a document writes it
abbrev pub near_own : (SchemaNode → Text) → List SchemaNode → Text → Option Text
near_own written nodes name = option_and_then (λ near. option_map written (find (λ n. is_text near n.name) nodes))
    (nearest (own_part name) (map (λ n. n.name) nodes))

-- the nearest of their names as a document writes them; where none is near, the nearest behind the colon
abbrev pub near_among : (SchemaNode → Text) → List SchemaNode → Text → Option Text
near_among written nodes name = first_of (nearest name (map written nodes)) (near_own written nodes name)

abbrev pub near_name : Schema → Option ℕ → Text → Option Text
near_name schema parent name = near_among (written_name schema (module_at schema parent)) (nodes_below schema parent) name

-- The faults that a store tells, as a list: what is told of each row's nodes that aren't stored, merged with what is told
-- of its children.
use Rattle.std.specs.Prelude.{ℕ, zero, suc, ◌++◌, ◌==◌, Bool, false, List, [], ◌∷◌, map, Option, Some, None, option_map, string_bytes, if◌then◌else◌}
use Rattle.std.specs.Option.{option_map_or}
use Rattle.yspec.specs.schema.Schema.{Schema, SchemaNode, has_value, node_at, data_way_to}
use Rattle.yspec.specs.document.Fault.{Fault, fault, plain_fault}
use Rattle.yspec.specs.document.FaultCode.{V1, V11}
use Rattle.yspec.specs.document.Faults.{Told}
use Rattle.yschema_model.specs.declared.node.SchemaId.{SchemaId}
use Rattle.ycheck.specs.View.{code_view}
use Rattle.ycheck.specs.Walk.{marks_told}
use Rattle.ycheck.specs.declared.fault.FaultCode.{FaultCode}
use Rattle.yspec_play.specs.Absences.{Absent}
use Rattle.yspec_play.specs.Merging.{merged}
use Rattle.ystore_rows.specs.Rows.{Child}
use Rattle.ystore.specs.Store.{held_at, children_at, play_at, same_at, total_at, node_count}
use Rattle.ystore_rows.specs.declared.row.NodeId.{NodeId}
use Rattle.ystore_rows.specs.declared.row.Row.{Row}
use Rattle.ystore_rows.specs.declared.row.Row.TheVariants.{Top, Below}
use Rattle.ystore.specs.declared.record.Judged.{Judged}
use Rattle.ystore.specs.declared.record.Judged.TheVariants.{Right, Wrong, Missing}
use Rattle.ystore.specs.declared.nodes.Nodes.{Nodes}

-- ---- at a node

abbrev pub judged_told : Judged → List Fault
judged_told Right = []
judged_told (Wrong app_tag) = fault V1 (option_map string_bytes app_tag) [] ∷ []
judged_told Missing = plain_fault V11 [] ∷ []

abbrev pub judged_at : Nodes → NodeId → Option Judged
judged_at nodes id = option_map (λ held. held.told.judged) (held_at nodes (Below id))

-- whether the same is told of it as of an item
abbrev pub is_item : Schema → ℕ → Bool
is_item schema number = option_map_or (λ n. has_value n.kind) (node_at schema number) false

-- of its value, and of others that have the same
abbrev pub own_told : Schema → Nodes → Child → List Fault
own_told schema nodes child = option_map_or judged_told (judged_at nodes child.1) []
    ++ marks_told (is_item schema child.0.0) 0 (same_at nodes child.1)

-- ---- of a row

abbrev pub absence_of : FaultCode × SchemaId → Absent
absence_of a = (code_view a.0, a.1.0)

abbrev pub absences_of : List (FaultCode × SchemaId) → List Absent
absences_of = map absence_of

-- what is told at a child and below it, given what is told of its children
abbrev pub told_from : Schema → Nodes → List Told → Child → List Fault
told_from schema nodes below child = own_told schema nodes child
    ++ merged schema (Some child.0.0) (absences_of (play_at nodes (Below child.1))) below

-- a child that has no fault in total is passed over
abbrev pub child_told : Schema → Nodes → List Told → Child → Told
child_told schema nodes below child = record {
  schema_number = child.0.0;
  faults = if total_at nodes (Below child.1) == 0 then [] else told_from schema nodes below child;
}

-- what is told of the children of a row, down to so many levels
abbrev pub told_below : ℕ → Schema → Nodes → Row → List Told
told_below zero schema nodes above = []
told_below (suc levels) schema nodes above =
    map (λ c. child_told schema nodes (told_below levels schema nodes (Below c.1)) c) (children_at nodes above)

-- the same of the children that are given
abbrev pub children_told : ℕ → Schema → Nodes → List Child → List Told
children_told levels schema nodes children =
    map (λ c. child_told schema nodes (told_below levels schema nodes (Below c.1)) c) children

-- what is told in a row and below it, its steps leading from the node above it
abbrev pub row_told : ℕ → Schema → Nodes → Option ℕ → Row → List Fault
row_told levels schema nodes above row =
    merged schema above (absences_of (play_at nodes row)) (told_below levels schema nodes row)

-- no way down is longer than there are nodes
abbrev pub list_told : Schema → Nodes → List Fault
list_told schema nodes = row_told (node_count nodes) schema nodes None Top

-- ---- ways

-- the data nodes that lead down to a node and are it; none to the top
abbrev pub data_way : Schema → Option ℕ → List SchemaNode
data_way schema None = []
data_way schema (Some number) = data_way_to schema number

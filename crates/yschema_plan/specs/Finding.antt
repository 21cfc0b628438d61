-- How nodes of a plan are found by their names.
use Rattle.std.specs.Prelude.{ℕ, ◌&&◌, Bool, true, false, List, Option, Some, None, nat_lt}
use Rattle.yspec.specs.text.Text.{Text}
use Rattle.yspec.specs.linking.Source.{argument_in}
use Rattle.yspec.specs.linking.Planned.{Planned, is_data, same_number, is_called}
use Rattle.ybase_preorder.specs.Layout.{labels_by}
use Rattle.ybase_preorder.specs.View.{slots_in}
use Rattle.ybase_preorder.specs.declared.slot.Slot.{Slot}
use Rattle.ybase_preorder.specs.declared.table.Table.{Table}
use Rattle.ybase_index.specs.declared.keys.Among.{Among}
use Rattle.ybase_index.specs.declared.keys.Among.TheVariants.{Children, Scope, DataNodes}
use Rattle.ybase_index.specs.declared.keys.IndexedNode.{IndexedNode}
use Rattle.yschema_plan.specs.PlannedView.{part_at, planned_view}
use Rattle.yschema_plan.specs.declared.planned.Planned as code

-- the nodes of a table, by number
abbrev pub list_of : Table code.Planned → List Planned
list_of t = labels_by planned_view 0 (slots_in t)

-- the name of a node
abbrev pub name_of : Planned → Text
name_of p = argument_in p.part.source

abbrev pub row_name : Slot code.Planned → Text
row_name r = argument_in (part_at r.label).source

-- the node below which one is looked for
abbrev pub above_in : Among → Planned → Option ℕ
above_in Children p = p.parent
above_in Scope p = p.scope
above_in DataNodes p = p.scope

abbrev pub is_looked_for : Among → Planned → Bool
is_looked_for Children p = true
is_looked_for Scope p = true
is_looked_for DataNodes p = is_data p

-- whether it is among those below a node, or at the top, and has this module and name
abbrev pub is_found : Among → Option ℕ → ℕ → Text → Planned → Bool
is_found among above m name p = is_looked_for among p
    && (same_number above (above_in among p) && is_called (record { module_number = Some m; name = name }) p)

-- a planned node as it is found
abbrev pub indexed : Planned → IndexedNode
indexed p = record { number = p.number; parent = p.parent; scope = p.scope; «module» = p.part.owner; is_data = is_data p }

-- whether a number, if there is one, is less than another
abbrev pub is_before : Option ℕ → ℕ → Bool
is_before None n = false
is_before (Some m) n = nat_lt m n

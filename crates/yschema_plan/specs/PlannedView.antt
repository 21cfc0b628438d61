-- Planned nodes as the specification's.
use Rattle.std.specs.Prelude.{ℕ, List}
use Rattle.yspec.specs.Forest.{Forest}
use Rattle.yspec.specs.linking.Parts.{Part}
use Rattle.yspec.specs.linking.Planned as spec
use Rattle.yspec.specs.linking.Planned.{planned}
use Rattle.ybase_preorder.specs.Layout.{Place, places, laid, seen}
use Rattle.ybase_preorder.specs.View.{slots_in}
use Rattle.ybase_preorder.specs.declared.slot.Slot.{Slot}
use Rattle.ybase_preorder.specs.declared.table.Table.{Table}
use Rattle.yschema_expand.specs.NodeView.{part_view}
use Rattle.yschema_plan.specs.declared.planned.Planned.{Planned}
use Rattle.yschema_plan.specs.declared.planned.Around.{Around}

abbrev pub part_at : Planned → Part
part_at p = part_view p.node.now

-- the planned node of a number
abbrev pub planned_view : ℕ → Planned → spec.Planned
planned_view number p =
    record { number = number; parent = p.parent; scope = p.scope; config = p.config; part = part_at p }

-- a slot with the planned node of a number
abbrev pub planned_place : ℕ → Slot Planned → Place spec.Planned
planned_place number r = record { parent = r.parent; label = planned_view number r.label; below = r.below }

abbrev pub around_view : Around → spec.Around
around_view a = record { parent = a.parent; data_parent = a.data_parent; scope = a.scope; config = a.config }

abbrev pub seen_rows : Table Planned → List (Place spec.Planned)
seen_rows t = seen planned_view 0 (laid (slots_in t))

-- how the nodes of parts lie below what stands around them, from a number on
abbrev pub listed : ℕ → spec.Around → Forest Part → List (Place spec.Planned)
listed number around parts = places around.parent number (planned number around parts)

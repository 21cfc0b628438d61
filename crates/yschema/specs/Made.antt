-- The places of schema nodes, from those of planned ones.
use Rattle.std.specs.Prelude.{ℕ}
use Rattle.yspec.specs.schema.Schema.{SchemaNode}
use Rattle.yspec.specs.linking.Planned.{Planned}
use Rattle.ybase_preorder.specs.Layout as preorder
use Rattle.ybase_preorder.specs.declared.slot.Slot as rows
use Rattle.yschema_plan.specs.PlannedView.{planned_view}
use Rattle.yschema_plan.specs.declared.planned.Planned as code
use Rattle.yschema_model.specs.Layout.{Place}

-- the place of the schema node that a planned one stands for
abbrev pub place_made : (Planned → SchemaNode) → preorder.Place Planned → Place
place_made make p = record { parent = p.parent; label = make p.label; below = p.below }

-- the place of the planned node of a number
abbrev pub planned_place : ℕ → rows.Slot code.Planned → preorder.Place Planned
planned_place number r = record { parent = r.parent; label = planned_view number r.label; below = r.below }

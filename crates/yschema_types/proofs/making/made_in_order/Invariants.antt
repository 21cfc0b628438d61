use Rattle.std.proofs.Common.{◌≡◌, Option, map}
use Rattle.yspec.specs.linking.TypeStatements.{Meant}
use Rattle.yspec.specs.linking.Planned.{Planned, nodes_of}
use Rattle.yschema_plan.specs.PlanView.{view}
use Rattle.yschema_types.specs.MadeTypes.{AreMade, IsOrder}
use Rattle.yschema_types.specs.MadeView.{rows_view}
use Rattle.yschema_types.specs.TypesView.{meants_view}
use Rattle.yschema_types.proofs.making.made_in_order.Given as goal

abbrev pub invariant-loop-number : goal.invariant-loop-number
invariant-loop-number l = (means : Planned → Option Meant) → meants_view l.meant ≡ map means (nodes_of (view l.plan))
    → IsOrder l.order (view l.plan) means → AreMade (view l.plan) means l.order (rows_view l.made.items) l.number-index

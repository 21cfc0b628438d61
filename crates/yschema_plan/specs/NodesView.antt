-- The nodes of a plan, with their numbers, as the specification's.
use Rattle.std.specs.Prelude.{◌≡◌, List, drop, [], ◌∷◌, Option, Some, None}
use Rattle.yspec.specs.linking.Planned as spec
use Rattle.yspec.specs.linking.Planned.{nodes_of}
use Rattle.yschema_plan.specs.PlannedView.{planned_view}
use Rattle.yschema_plan.specs.PlanView.{view}
use Rattle.yschema_plan.specs.declared.nodes.PlanNode.{PlanNode}
use Rattle.yschema_plan.specs.declared.nodes.PlanNodes.{PlanNodes}

abbrev pub node_view : PlanNode → spec.Planned
node_view n = planned_view n.number n.planned

-- those that are left
abbrev pub left : PlanNodes → List spec.Planned
left nodes = drop nodes.number (nodes_of (view nodes.plan.now))

-- A step gives the first of those that are left.
abbrev pub TakesNode : PlanNodes → Option PlanNode → PlanNodes → Type 0
TakesNode before None after = (left before ≡ []) × (left after ≡ [])
TakesNode before (Some n) after = left before ≡ node_view n ∷ left after

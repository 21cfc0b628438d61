use Rattle.std.proofs.Common.{◌≡◌, false, replicate}
use Rattle.yspec.specs.Forest.{size}
use Rattle.yspec.specs.linking.Planned.{nodes_of}
use Rattle.yschema_plan.specs.NodesView.{left}
use Rattle.yschema_plan.specs.PlanView.{view}
use Rattle.yschema_types.specs.Marks.{marked_by}
use Rattle.yschema_resolve.specs.TuplesView.{keys_of}
use Rattle.yschema_resolve.proofs.tuples.keys.Given as goal

abbrev pub invariant-loop-node : goal.invariant-loop-node
invariant-loop-node l = let plan = view l.plan in record {
  more : (goal.iterator-loop-node).can_next l.node-iterator;
  ends : (goal.iterator-loop-node).is_finite l.node-iterator;
  marks : marked_by (keys_of plan) l.marks.items (left l.node-iterator) ≡ marked_by (keys_of plan) (replicate (size plan.nodes) false) (nodes_of plan);
}

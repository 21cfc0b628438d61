use Rattle.std.proofs.Common.{◌≡◌, ◌++◌, ℕ}
use Rattle.yspec.specs.linking.Planned.{nodes_of}
use Rattle.yschema_plan.specs.NodesView.{left}
use Rattle.yschema_plan.specs.PlanView.{view}
use Rattle.yschema.specs.Added.{held, added_among}
use Rattle.yschema.proofs.augmenting.Added.of.Given as goal

abbrev pub invariant-loop-node : goal.invariant-loop-node
invariant-loop-node l = record {
  more : (goal.iterator-loop-node).can_next l.node-iterator;
  ends : (goal.iterator-loop-node).is_finite l.node-iterator;
  so_far : (augment : ℕ) → held l.added augment ++ added_among augment (left l.node-iterator) ≡ added_among augment (nodes_of (view l.plan));
}

use Rattle.std.proofs.Common.{◌≡◌, ◌++◌, map, option_map}
use Rattle.std.specs.List.{flat_map}
use Rattle.yschema_plan.specs.NodesView.{node_view}
use Rattle.yschema_plan.specs.OwnView.{left}
use Rattle.yschema_plan.specs.PlanView.{view}
use Rattle.yschema_resolve.specs.TuplesView.{children_named, children_by}
use Rattle.yschema_resolve.proofs.tuples.key_children.Given as goal

abbrev pub invariant-loop-statement : goal.invariant-loop-statement
invariant-loop-statement l = let p = node_view l.list in record {
  more : (goal.iterator-loop-statement).can_next l.statement-iterator;
  ends : (goal.iterator-loop-statement).is_finite l.statement-iterator;
  so_far : map (option_map node_view) l.children.items ++ flat_map (children_named (view l.plan) p) (left l.statement-iterator)
      ≡ children_by (view l.plan) p;
}

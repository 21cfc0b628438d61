use Rattle.std.proofs.Common.{◌≡◌, ◌++◌, map}
use Rattle.yspec.specs.linking.SchemaNodes.{unique_ways}
use Rattle.yschema_plan.specs.NodesView.{node_view}
use Rattle.yschema_plan.specs.OwnView.{left}
use Rattle.yschema_plan.specs.PlanView.{view}
use Rattle.yschema_resolve.specs.TuplesView.{ways_named, ways_view}
use Rattle.yschema_resolve.proofs.tuples.unique_ways.Given as goal

abbrev pub invariant-loop-statement : goal.invariant-loop-statement
invariant-loop-statement l = let p = node_view l.list in record {
  more : (goal.iterator-loop-statement).can_next l.statement-iterator;
  ends : (goal.iterator-loop-statement).is_finite l.statement-iterator;
  so_far : map ways_view l.uniques.items ++ map (ways_named (view l.plan) p) (left l.statement-iterator)
      ≡ unique_ways (view l.plan) p;
}

use Rattle.std.proofs.Common.{◌≡◌, ◌++◌, map}
use Rattle.yspec.specs.linking.Planned.{nodes_of}
use Rattle.yschema_plan.specs.NodesView.{left}
use Rattle.yschema_plan.specs.PlanView.{view}
use Rattle.yschema_resolve.specs.Guarding.{hangs_by}
use Rattle.yschema_resolve.proofs.guarding.guarded_of.Given as goal

-- those so far, and the others
abbrev pub invariant-loop-node : goal.invariant-loop-node
invariant-loop-node l =
    let hangs = hangs_by l.unguarded (view l.plan) in
    l.guarded.items ++ map hangs (left l.node-iterator) ≡ map hangs (nodes_of (view l.plan))

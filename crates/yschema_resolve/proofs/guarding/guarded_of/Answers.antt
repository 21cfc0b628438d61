use Rattle.std.proofs.Common.{ap, ◌∙◌}
use Rattle.yspec.specs.linking.Planned.{nodes_of}
use Rattle.yschema_plan.specs.NodesView.{left, node_view}
use Rattle.yschema_plan.specs.PlanView.{view}
use Rattle.yschema_resolve.specs.Guarding.{hangs_by, is_guarded_by}
use Rattle.yschema_types.proofs.CollectLemmas.{collected}
use Rattle.yschema_resolve.proofs.guarding.guarded_of.Goals as goal

pub loop-node-preserved : goal.loop-node-preserved
loop-node-preserved c =
    let plan = view c.args.plan.now in
    let p = node_view c.in-Some.node in
    collected (hangs_by c.args.unguarded.now plan) c.loop-node.guarded.items c.push.new.self.items p c.is_guarded_within.result
    (left c.loop-node.node-iterator) (left c.next.new.self) (nodes_of plan) c.in-Some.ensures.steps c.in_ok-push.ensures.items
    (c.is_guarded_within.ensures ∙ ap (λ steps. is_guarded_by c.args.unguarded.now plan steps p) c.nodes-steps.ensures)
    c.loop-node.invariant

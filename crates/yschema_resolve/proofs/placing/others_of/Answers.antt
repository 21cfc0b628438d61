use Rattle.std.proofs.Common.{ap, not}
use Rattle.yspec.specs.linking.Planned.{Planned, nodes_of}
use Rattle.yspec_wide.specs.Operations.{is_operation_node}
use Rattle.ylink_grammar.specs.LanguageView.{language_view}
use Rattle.yschema_plan.specs.NodesView.{left, node_view}
use Rattle.yschema_plan.specs.PlanView.{view}
use Rattle.yschema_types.proofs.CollectLemmas.{collected}
use Rattle.yschema_resolve.proofs.placing.others_of.Goals as goal

pub loop-node-preserved : goal.loop-node-preserved
loop-node-preserved c =
    let p = node_view c.in-Some.node in
    let told = λ (q : Planned). not (is_operation_node (language_view c.args.language.now) q) in
    collected told c.loop-node.others.items c.push.new.self.items p (not c.is_operation.result)
    (left c.loop-node.node-iterator) (left c.next.new.self) (nodes_of (view c.args.plan.now)) c.in-Some.ensures.steps c.in_ok-push.ensures.items
    (ap not c.is_operation.ensures)
    c.loop-node.invariant

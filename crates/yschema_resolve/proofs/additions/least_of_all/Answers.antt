use Rattle.std.proofs.Common.{None}
use Rattle.std.specs.List.{flat_map}
use Rattle.yspec.specs.schema.Breaks.{least_from}
use Rattle.yspec.specs.linking.Planned.{nodes_of}
use Rattle.ylink_grammar.specs.BreakView.{seen}
use Rattle.ylink_grammar.specs.LanguageView.{language_view}
use Rattle.yschema_plan.specs.Needs.{stands_in}
use Rattle.yschema_plan.specs.NodesView.{left, node_view}
use Rattle.yschema_plan.specs.PlanView.{view}
use Rattle.yschema_resolve.specs.Standing.{addition_breaks_outside}
use Rattle.yschema_resolve.proofs.JudgingLemmas.{next_judged}
use Rattle.yschema_resolve.proofs.additions.least_of_all.Goals as goal

pub loop-node-preserved : goal.loop-node-preserved
loop-node-preserved c =
    let plan = view c.args.plan.now in
    let breaks = addition_breaks_outside (language_view c.args.language.now) (stands_in c.args.standing.now) c.args.inside.now plan in
    next_judged breaks (seen c.loop-node.told) (seen c.least_outside-told.result) (node_view c.in-Some.node) (left c.loop-node.node-iterator)
    (left c.next.new.self) (least_from None (flat_map breaks (nodes_of plan))) c.in-Some.ensures.steps c.least_outside-told.ensures c.loop-node.invariant

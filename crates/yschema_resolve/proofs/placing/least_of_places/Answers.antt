use Rattle.std.specs.List.{flat_map}
use Rattle.yspec.specs.schema.Breaks.{least_from}
use Rattle.yspec.specs.linking.Planned.{nodes_of}
use Rattle.ylink_grammar.specs.BreakView.{seen}
use Rattle.ylink_grammar.specs.LanguageView.{language_view}
use Rattle.yschema_plan.specs.NodesView.{left, node_view}
use Rattle.yschema_plan.specs.PlanView.{view}
use Rattle.yschema_resolve.specs.Placing.{place_breaks_by}
use Rattle.yschema_resolve.proofs.JudgingLemmas.{next_judged}
use Rattle.yschema_resolve.proofs.placing.least_of_places.Goals as goal

pub loop-node-preserved : goal.loop-node-preserved
loop-node-preserved c =
    let plan = view c.args.plan.now in
    let breaks = place_breaks_by (language_view c.args.language.now) c.args.barred.now plan in
    next_judged breaks (seen c.loop-node.told) (seen c.least_place-told.result) (node_view c.in-Some.node) (left c.loop-node.node-iterator)
    (left c.next.new.self) (least_from (seen c.args.so_far) (flat_map breaks (nodes_of plan))) c.in-Some.ensures.steps c.least_place-told.ensures c.loop-node.invariant

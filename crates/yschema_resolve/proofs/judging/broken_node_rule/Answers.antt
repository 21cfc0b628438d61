use Rattle.std.proofs.Common.{◌++◌, ◌∷◌, []}
use Rattle.std.specs.List.{flat_map}
use Rattle.yspec.specs.schema.Breaks.{least_from}
use Rattle.yspec.specs.linking.Planned.{nodes_of}
use Rattle.yspec_wide.specs.Compiling.{own_breaks_in}
use Rattle.ylink_grammar.specs.BreakView.{seen}
use Rattle.ylink_grammar.specs.LanguageView.{language_view}
use Rattle.yschema_plan.specs.NodesView.{left, node_view}
use Rattle.yschema_plan.specs.PlanView.{view}
use Rattle.yschema_resolve.proofs.JudgingLemmas.{next_judged, first_stands, one_done}
use Rattle.yschema_resolve.proofs.judging.broken_node_rule.Goals as goal

pub loop-node-preserved : goal.loop-node-preserved
loop-node-preserved c =
    let p = view c.args.plan.now in
    let breaks = own_breaks_in (language_view c.args.language.now) p in
    let node = node_view c.in-Some.node in
    let before = left c.loop-node.node-iterator in
    let rest = left c.next.new.self in
    let whole = c.loop-node.invariant.whole in
    record {
      whole = (whole.0 ++ node ∷ [], one_done whole.0 before rest (nodes_of p) node c.in-Some.ensures.steps whole.1);
      told = next_judged breaks (seen c.loop-node.told) (seen c.in_ok-told.told) node before rest (least_from (seen c.args.so_far) (flat_map breaks (nodes_of p)))
          c.in-Some.ensures.steps c.in_ok-told.ensures c.loop-node.invariant.told;
    }

pub broken_own_rule-requires-clause-stands : goal.broken_own_rule-requires-clause-stands
broken_own_rule-requires-clause-stands c =
    let whole = c.loop-node.invariant.whole in
    first_stands c.args.plan.now whole.0 (left c.loop-node.node-iterator) (left c.next.new.self) (node_view c.in-Some.node) c.in-Some.ensures.steps whole.1

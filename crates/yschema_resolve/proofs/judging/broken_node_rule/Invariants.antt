use Rattle.std.proofs.Common.{◌≡◌, ◌++◌, List}
use Rattle.std.specs.List.{flat_map}
use Rattle.yspec.specs.schema.Breaks.{least_from}
use Rattle.yspec.specs.linking.Planned.{Planned, nodes_of}
use Rattle.yspec_wide.specs.Compiling.{own_breaks_in}
use Rattle.ylink_grammar.specs.BreakView.{seen}
use Rattle.ylink_grammar.specs.LanguageView.{language_view}
use Rattle.yschema_plan.specs.NodesView.{left}
use Rattle.yschema_plan.specs.PlanView.{view}
use Rattle.yschema_resolve.proofs.judging.broken_node_rule.Given as goal

abbrev pub invariant-loop-node : goal.invariant-loop-node
invariant-loop-node l =
    let p = view l.plan in
    let breaks = own_breaks_in (language_view l.language) p in
    record {
      whole : (done : List Planned) × (done ++ left l.node-iterator ≡ nodes_of p);
      told : least_from (seen l.told) (flat_map breaks (left l.node-iterator)) ≡ least_from (seen l.fn.so_far) (flat_map breaks (nodes_of p));
    }

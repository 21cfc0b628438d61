use Rattle.std.proofs.Common.{◌≡◌}
use Rattle.std.specs.List.{flat_map}
use Rattle.yspec.specs.schema.Breaks.{least_from}
use Rattle.yspec.specs.linking.Planned.{nodes_of}
use Rattle.ylink_grammar.specs.BreakView.{seen}
use Rattle.ylink_grammar.specs.LanguageView.{language_view}
use Rattle.yschema_plan.specs.NodesView.{left}
use Rattle.yschema_plan.specs.PlanView.{view}
use Rattle.yschema_resolve.specs.Placing.{place_breaks_by}
use Rattle.yschema_resolve.proofs.placing.least_of_places.Given as goal

-- the least so far, with what is told of the others
abbrev pub invariant-loop-node : goal.invariant-loop-node
invariant-loop-node l =
    least_from (seen l.told) (flat_map (place_breaks_by (language_view l.language) l.barred (view l.plan)) (left l.node-iterator))
    ≡ least_from (seen l.fn.so_far) (flat_map (place_breaks_by (language_view l.language) l.barred (view l.plan)) (nodes_of (view l.plan)))

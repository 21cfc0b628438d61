use Rattle.std.proofs.Common.{◌≡◌, None}
use Rattle.std.specs.List.{flat_map}
use Rattle.yspec.specs.schema.Breaks.{least_from}
use Rattle.yspec.specs.linking.Planned.{nodes_of}
use Rattle.ylink_grammar.specs.BreakView.{seen}
use Rattle.ylink_grammar.specs.LanguageView.{language_view}
use Rattle.yschema_plan.specs.Needs.{stands_in}
use Rattle.yschema_plan.specs.NodesView.{left}
use Rattle.yschema_plan.specs.PlanView.{view}
use Rattle.yschema_resolve.specs.Standing.{addition_breaks_outside}
use Rattle.yschema_resolve.proofs.additions.least_of_all.Given as goal

-- the least so far, with what is told of the others
abbrev pub invariant-loop-node : goal.invariant-loop-node
invariant-loop-node l =
    least_from (seen l.told) (flat_map (addition_breaks_outside (language_view l.language) (stands_in l.standing) l.inside (view l.plan)) (left l.node-iterator))
    ≡ least_from None (flat_map (addition_breaks_outside (language_view l.language) (stands_in l.standing) l.inside (view l.plan)) (nodes_of (view l.plan)))

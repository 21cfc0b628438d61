use Rattle.std.proofs.Common.{◌≡◌, ◌++◌, map, not}
use Rattle.yspec.specs.linking.Planned.{nodes_of}
use Rattle.yspec_wide.specs.Operations.{bars_operations}
use Rattle.ylink_grammar.specs.LanguageView.{language_view}
use Rattle.yschema_plan.specs.NodesView.{left}
use Rattle.yschema_plan.specs.PlanView.{view}
use Rattle.yschema_resolve.proofs.placing.free_of.Given as goal

-- those so far, and the others
abbrev pub invariant-loop-node : goal.invariant-loop-node
invariant-loop-node l =
    l.free.items ++ map (λ p. not (bars_operations (language_view l.language) p)) (left l.node-iterator)
    ≡ map (λ p. not (bars_operations (language_view l.language) p)) (nodes_of (view l.plan))

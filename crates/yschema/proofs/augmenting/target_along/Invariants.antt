use Rattle.std.proofs.Common.{◌≡◌, map, None, drop}
use Rattle.yspec.specs.linking.Prefixes.{node_name}
use Rattle.ylink_arguments.specs.NameView.{names_view}
use Rattle.yschema_plan.specs.PlanView.{view}
use Rattle.yschema.specs.Added.{leads}
use Rattle.yschema.proofs.augmenting.target_along.Given as goal

abbrev pub invariant-loop-step : goal.invariant-loop-step
invariant-loop-step l =
    let p = view l.plan in
    leads p l.found (map (node_name p.modules l.home l.home) (names_view (drop l.step-index l.steps)))
    ≡ leads p None (map (node_name p.modules l.home l.home) (names_view l.steps))

use Rattle.std.proofs.Common.{◌≡◌, map, option_map, None, drop}
use Rattle.yspec.specs.linking.Prefixes.{node_name}
use Rattle.yspec.specs.linking.Planned as spec
use Rattle.ylink_arguments.specs.NameView.{names_view}
use Rattle.yschema_plan.specs.NodesView.{node_view}
use Rattle.yschema_plan.specs.PlanView.{view}
use Rattle.yschema_types.proofs.MeaningLemmas.{onwards}
use Rattle.yschema_types.proofs.meanings.data_node_at.Given as goal

abbrev pub invariant-loop-step : goal.invariant-loop-step
invariant-loop-step l =
    let p = view l.plan in
    onwards p (option_map node_view l.found) (map (node_name p.modules l.home l.owner) (names_view (drop l.step-index l.steps)))
    ≡ spec.data_node_at p None (map (node_name p.modules l.home l.owner) (names_view l.steps))

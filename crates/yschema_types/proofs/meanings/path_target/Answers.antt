use Rattle.std.proofs.Common.{None, map, ap, ◌∙◌}
use Rattle.yspec.specs.linking.Planned as spec
use Rattle.yspec.specs.linking.Prefixes.{node_name}
use Rattle.ylink_arguments.specs.NameView.{names_view}
use Rattle.yschema_plan.specs.PlanView.{view}
use Rattle.yschema_types.proofs.meanings.path_target.Goals as goal

pub returns : goal.returns
returns c = λ p owner.
    let plan = view c.args.plan.now in
    c.leaf_found.ensures
    ∙ ap spec.leaf_found (c.data_node_at.ensures
    ∙ ap (λ n. spec.data_node_at plan None (map (node_name plan.modules c.args.home n) (names_view c.args.steps.now))) owner)

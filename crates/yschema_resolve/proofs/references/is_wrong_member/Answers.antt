use Rattle.std.proofs.Common.{sym, ap, ◌∙◌}
use Rattle.yspec.specs.linking.NodeBreaks as breaks
use Rattle.yspec.specs.linking.Planned as spec
use Rattle.ylink_arguments.specs.NameView.{names_view}
use Rattle.ylink.specs.TypeView.{member_view}
use Rattle.yschema_plan.specs.NodesView.{node_view}
use Rattle.yschema_plan.specs.PlanView.{view}
use Rattle.yschema_resolve.proofs.references.is_wrong_member.Goals as goal

pub returns-in-Leafref : goal.returns-in-Leafref
returns-in-Leafref c =
    let plan = view c.args.plan.now in
    let p = node_view c.args.node in
    let required = c.in-Leafref.required in
    c.is_wrong_target.ensures c.args.node.number
    ∙ (ap (breaks.is_wrong_target p required) (c.path_target-target.ensures p c.owner.ensures
    ∙ ap (λ steps. spec.path_target plan p c.in-Leafref.home (names_view steps)) c.as_slice.ensures.value)
    ∙ ap (breaks.is_wrong_member plan p) (ap member_view (sym c.in-Leafref.is)))

use Rattle.std.proofs.Common.{refl, sym, ◌∙◌}
use Rattle.std.specs.Prelude.{◌&&◌}
use Rattle.yspec.specs.linking.Planned as spec
use Rattle.yspec.specs.linking.Planned.{same_number, is_called}
use Rattle.ylink_names.specs.PrefixView.{node_name_view}
use Rattle.yschema_plan.specs.PlanView.{view}
use Rattle.yschema_plan.proofs.NodeLemmas.{by_number}
use Rattle.yschema_plan.proofs.plan.Plan.child_called.Goals as goal

pub returns : goal.returns
returns c =
    let plan = c.args.self.now in
    let name = node_name_view c.args.name in
    c.at.ensures ∙ by_number plan (λ p. same_number c.args.parent p.parent && is_called name p) c.in_ok-child.field-0
    (spec.child_called (view plan) c.args.parent name) refl (sym c.in_ok-child.was ∙ c.child.ensures)

use Rattle.std.proofs.Common.{ap, ◌∙◌}
use Rattle.yspec.specs.linking.NodeBreaks.{row_below}
use Rattle.ybase_preorder.specs.View.{forest_in}
use Rattle.yschema_plan.specs.Needs.{all_stand, is_told}
use Rattle.yschema_plan.specs.PlanView.{view}
use Rattle.yschema_plan.proofs.NeedLemmas.{mandatory_of_all, told_at}
use Rattle.yschema_plan.proofs.plan.Plan.has_mandatory_below.Goals as goal

pub returns : goal.returns
returns c =
    let plan = c.args.self.now in
    let n = c.args.number in
    c.is_told.ensures ∙ (ap (λ told. is_told told n) c.deref.ensures.value
    ∙ (ap (λ told. is_told told n) plan.told ∙ (told_at all_stand (forest_in plan.table) n ∙ mandatory_of_all (row_below (view plan) n))))

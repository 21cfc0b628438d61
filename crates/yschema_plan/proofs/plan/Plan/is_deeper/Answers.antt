use Rattle.std.proofs.Common.{nat_lt, ◌∙◌, ap, sym}
use Rattle.yspec.specs.Forest.{levels}
use Rattle.ybase_preorder.specs.View.{forest_in}
use Rattle.ybase_preorder.proofs.LabelLemmas.{levels-by}
use Rattle.yschema_plan.specs.PlannedView.{planned_view}
use Rattle.yschema_plan.proofs.plan.Plan.is_deeper.Goals as goal

pub returns : goal.returns
returns c = c.are_deeper.ensures
    ∙ ap (nat_lt c.args.limit) (ap levels c.roots.ensures.row ∙ sym (levels-by planned_view 0 (forest_in c.args.self.now.table)))

use Rattle.std.proofs.Common.{◌∙◌, sym}
use Rattle.ybase_preorder.specs.View.{slots_in, forest_in}
use Rattle.ybase_preorder.proofs.RowLemmas.{size_forest}
use Rattle.ybase_preorder.proofs.LabelLemmas.{size-by}
use Rattle.yschema_plan.specs.PlannedView.{planned_view}
use Rattle.yschema_plan.proofs.plan.Plan.nodes.Goals as goal

pub returns : goal.returns
returns c =
    let table = c.args.self.now.table in
    c.len.ensures ∙ sym (size-by planned_view 0 (forest_in table) ∙ size_forest (slots_in table))

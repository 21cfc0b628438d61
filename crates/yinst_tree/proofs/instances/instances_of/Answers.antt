use Rattle.std.proofs.Common.{ap, ◌∙◌}
use Rattle.yinst_tree.specs.View.{row_view}
use Rattle.yinst_tree.specs.Walk.{front, behind}
use Rattle.yinst_tree.proofs.InstanceLemmas.{front_rows, behind_rows}
use Rattle.yinst_tree.proofs.instances.instances_of.Goals as goal

pub returns-clause-found : goal.returns-clause-found
returns-clause-found c =
    ap row_view c.instances_and_rest.ensures.found ∙ (front_rows c.args.id.0 c.left_from.result.now ∙ ap (front c.args.id.0) c.left_from.ensures)

pub returns-clause-behind : goal.returns-clause-behind
returns-clause-behind c =
    ap row_view c.instances_and_rest.ensures.behind ∙ (behind_rows c.args.id.0 c.left_from.result.now ∙ ap (behind c.args.id.0) c.left_from.ensures)

use Rattle.yinst_tree.specs.View.{row_view}
use Rattle.yinst.proofs.RowChangeLemmas.{same_if_ok, branch_put}
use Rattle.yinst.proofs.rows.with_branch.Goals as goal

pub returns : goal.returns
returns c = same_if_ok c.with_more.result (λ nodes. row_view nodes.items) _ _
    (branch_put c.args.branch c.args.row.now c.split_behind.result.0.now c.split_behind.result.1.now c.in_ok-nodes.nodes.items
    c.id.result.0 c.id.ensures c.split_behind.ensures.before c.split_behind.ensures.from c.in_ok-nodes.ensures)
    c.with_more.ensures

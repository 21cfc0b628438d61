use Rattle.std.proofs.Common.{ap, ap₂, ◌∙◌}
use Rattle.std.specs.Prelude.{insert}
use Rattle.yinst_tree.specs.View.{row_view}
use Rattle.yinst.specs.Rows.{index_among}
use Rattle.yinst.proofs.RowChangeLemmas.{put_among}
use Rattle.yinst.proofs.rows.with_branch_behind.Goals as goal

pub returns : goal.returns
returns c = ap row_view (c.in_ok-insert.ensures.items
    ∙ ap (λ at. insert c.args.nodes.items at c.args.branch)
    (c.index_among-at.ensures.place ∙ ap₂ (λ n row. index_among n c.args.count row) c.id.ensures c.as_slice.ensures.value))
    ∙ put_among c.args.branch c.args.count c.args.nodes.items

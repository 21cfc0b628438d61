use Rattle.yspec.specs.edit.Edit.{instance_index}
use Rattle.yinst_tree.specs.View.{row_view}
use Rattle.yinst.specs.Locating.{spot_view}
use Rattle.yinst.proofs.RowChangeLemmas.{same_if_ok, put_instead, nothing_changed}
use Rattle.yinst.proofs.rows.with_instead.Goals as goal

pub returns-in-Some : goal.returns-in-Some
returns-in-Some c =
    same_if_ok c.with_more.result (λ nodes. row_view nodes.items) _ _
    (put_instead c.args.spot.id.0 (instance_index (spot_view c.args.spot)) c.args.branch c.args.row.now c.split_at_spot.result.0.now c.split_at_spot.result.1.now c.in_ok-nodes.nodes.items c.in-Some.after.now
    _ c.split_at_spot.ensures.before c.split_at_spot.ensures.from c.in_ok-nodes.ensures c.in-Some.ensures.cases.0)
    c.with_more.ensures

pub returns-in-None : goal.returns-in-None
returns-in-None c = nothing_changed c.args.spot.id.0 (instance_index (spot_view c.args.spot)) _ c.args.row.now c.split_at_spot.result.0.now c.split_at_spot.result.1.now c.in_ok-nodes.nodes.items
    c.split_at_spot.ensures.before c.split_at_spot.ensures.from c.in_ok-nodes.ensures c.in-None.ensures.cases

use Rattle.yspec.specs.edit.Edit.{instance_index}
use Rattle.yinst_tree.specs.View.{row_view}
use Rattle.yinst.specs.Locating.{spot_view}
use Rattle.yinst.proofs.RowChangeLemmas.{same_if_ok, below_changed, nothing_changed}
use Rattle.yinst.proofs.rows.+changed_row.Goals as goal

pub changed_below-returns-in_ok-with_below-in-Some : goal.changed_below-returns-in_ok-with_below-in-Some
changed_below-returns-in_ok-with_below-in-Some t c =
    let w = c.in_ok-with_below-in-Some in
    same_if_ok c.with_more.result (λ nodes. row_view nodes.items) _ _
    (below_changed c.args.spot.id.0 (instance_index (spot_view c.args.spot)) _ c.args.row.now c.split_at_spot.result.0.now c.split_at_spot.result.1.now c.in_ok-nodes.nodes.items c.in-Some.after.now
    c.in-Some.stored.now w.field-0 (row_view c.below.result.now) (row_view c.in_ok-below-in-Some.below.items)
    c.split_at_spot.ensures.before c.split_at_spot.ensures.from c.in_ok-nodes.ensures c.in-Some.ensures.cases.0 w.ensures c.in_ok-below-in-Some.ensures c.below.ensures.below)
    c.with_more.ensures

pub changed_below-returns-in-None : goal.changed_below-returns-in-None
changed_below-returns-in-None t c = nothing_changed c.args.spot.id.0 (instance_index (spot_view c.args.spot)) _ c.args.row.now c.split_at_spot.result.0.now c.split_at_spot.result.1.now c.in_ok-nodes.nodes.items
    c.split_at_spot.ensures.before c.split_at_spot.ensures.from c.in_ok-nodes.ensures c.in-None.ensures.cases

use Rattle.std.proofs.Common.{◌+◌, drop, slice_index_or, ap, sym, ◌∙◌}
use Rattle.std.proofs.lemmas.List.{at_drop_more, at_drop_all}
use Rattle.yspec.specs.Forest.{join}
use Rattle.yinst_tree.specs.View.{view, row_view}
use Rattle.yspec.proofs.ForestLemmas.{join_end}
use Rattle.yinst.proofs.RowChangeLemmas.{one_more}
use Rattle.yinst.proofs.rows.push_copies.Goals as goal

pub loop-stored-preserved : goal.loop-stored-preserved
loop-stored-preserved c =
    let l = c.loop-stored in
    let row = c.args.row.now in
    ap (λ nodes. join (row_view nodes) (row_view (drop (l.stored-index + 1) row))) c.in_ok-push.ensures.items
    ∙ (one_more l.nodes.items (slice_index_or row l.stored-index c.stored-item.result) c.in_ok-clone.field-0 (drop (l.stored-index + 1) row) (c.in_ok-clone.ensures.cases ∙ ap view c.stored-item.is)
    ∙ (sym (at_drop_more (λ ss. join (row_view l.nodes.items) (row_view ss)) row l.stored-index c.stored-item.result c.loop-stored-test.true) ∙ l.invariant))

pub returns : goal.returns
returns c =
    let l = c.loop-stored in
    sym (join_end (row_view l.nodes.items))
    ∙ (sym (at_drop_all (λ ss. join (row_view l.nodes.items) (row_view ss)) c.args.row.now l.stored-index c.loop-stored-test.false) ∙ l.invariant)

use Rattle.std.proofs.Common.{◌+◌, sym, ◌∙◌, arith, drop}
use Rattle.yinst_tree.specs.View.{view, row_view}
use Rattle.ycheck.proofs.CaseLemmas.{left_at}
use Rattle.ycheck.proofs.ValueLemmas.{found_first, row_first}
use Rattle.ycheck.proofs.values.stored_in.Goals as goal

pub returns-then-id-clause-node : goal.returns-then-id-clause-node
returns-then-id-clause-node c =
    let row = c.args.row.now in
    let s = view c.stored-item.result in
    sym (found_first c.args.id.0 (row_view (drop c.loop-stored.stored-index row)) s.0 s.1 (row_view (drop (c.loop-stored.stored-index + 1) row))
    (left_at row c.loop-stored.stored-index c.stored-item.result (omega arith) c.stored-item.is) (omega (arith, c.if-id.true, c.id.ensures))) ∙ c.loop-stored.invariant.0

pub returns-then-id-clause-below : goal.returns-then-id-clause-below
returns-then-id-clause-below c =
    let row = c.args.row.now in
    let s = view c.stored-item.result in
    sym (row_first c.args.id.0 (row_view (drop c.loop-stored.stored-index row)) s.0 s.1 (row_view (drop (c.loop-stored.stored-index + 1) row))
    (left_at row c.loop-stored.stored-index c.stored-item.result (omega arith) c.stored-item.is) (omega (arith, c.if-id.true, c.id.ensures))) ∙ c.loop-stored.invariant.1

use Rattle.std.proofs.Common.{◌+◌, ap, ◌∙◌, arith, drop}
use Rattle.std.specs.Prelude.{◌==◌}
use Rattle.yinst_tree.specs.View.{view, row_view}
use Rattle.ycheck.proofs.CaseLemmas.{left_at, pass_found}
use Rattle.ycheck.proofs.cases.is_stored.Goals as goal

pub returns-then-id : goal.returns-then-id
returns-then-id c =
    let row = c.args.rest.now in
    let s = view c.stored-item.result in
    λ sorted. ap (λ n. n == c.args.id.0) c.id-then-id.ensures
    ∙ pass_found c.args.id.0 (row_view row) (row_view (drop c.loop-stored.stored-index row)) s.0 s.1 (row_view (drop (c.loop-stored.stored-index + 1) row))
    (left_at row c.loop-stored.stored-index c.stored-item.result (omega arith) c.stored-item.is) (omega (arith, c.if-id.true, c.id.ensures)) c.loop-stored.invariant sorted

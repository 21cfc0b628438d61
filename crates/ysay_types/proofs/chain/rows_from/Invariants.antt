use Rattle.std.proofs.Common.{◌≡◌, ◌++◌, drop, map}
use Rattle.ytext.specs.View.{modules_view, row_view}
use Rattle.ysay_types.specs.Chain.{rows_from}
use Rattle.ysay_types.proofs.chain.rows_from.Given as goal

abbrev pub invariant-loop-level : goal.invariant-loop-level
invariant-loop-level l = map (λ r. row_view r.now) l.rows.items ++ rows_from (drop l._level-index l.levels) (modules_view l.fn.modules) (row_view l.below, row_view l.outside)
    ≡ rows_from l.levels (modules_view l.fn.modules) (row_view l.fn.row, row_view l.fn.around)

use Rattle.std.proofs.Common.{◌≡◌, ◌++◌, drop, map}
use Rattle.ytext.specs.View.{row_view}
use Rattle.ysay_names.specs.Rows.{arguments_called}
use Rattle.ysay_names.proofs.rows.add_row_called.Given as goal

abbrev pub invariant-loop-statement : goal.invariant-loop-statement
invariant-loop-statement l = map (λ t. t.now) l.texts.items ++ arguments_called l.word (row_view (drop l.statement-index l.row))
    ≡ map (λ t. t.now) l.fn.texts.items ++ arguments_called l.word (row_view l.row)

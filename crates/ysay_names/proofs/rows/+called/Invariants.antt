use Rattle.std.proofs.Common.{◌≡◌, ◌++◌, drop, map}
use Rattle.ytext.specs.View.{row_view}
use Rattle.ysay_names.specs.Rows.{all_arguments_called}
use Rattle.ysay_names.proofs.rows.+called.Given as goal

abbrev pub invariant-add_all_called-loop-statement : goal.invariant-add_all_called-loop-statement
invariant-add_all_called-loop-statement l = map (λ t. t.now) l.texts.items ++ all_arguments_called l.word (row_view (drop l.statement-index l.row))
    ≡ map (λ t. t.now) l.fn.texts.items ++ all_arguments_called l.word (row_view l.row)

use Rattle.std.proofs.Common.{◌≡◌, drop}
use Rattle.ytext.specs.View.{row_view}
use Rattle.ylink_grammar.specs.WordView.{word_view}
use Rattle.ysay_forms.specs.Said.{in_row}
use Rattle.ysay_forms.specs.View.{question_view}
use Rattle.ysay_forms.proofs.walk.+rows.Given as goal

abbrev pub invariant-in_row-loop-statement : goal.invariant-in_row-loop-statement
invariant-in_row-loop-statement l =
    in_row (question_view l.question) (word_view l.above) (row_view (drop l.statement-index l.statements))
    ≡ in_row (question_view l.question) (word_view l.above) (row_view l.statements)

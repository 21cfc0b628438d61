use Rattle.std.proofs.Common.{◌≡◌, drop}
use Rattle.yspec.specs.Forest.{row}
use Rattle.ytext.specs.View.{row_view}
use Rattle.ylink_grammar.specs.Counts.{has_word}
use Rattle.ylink_grammar.proofs.grammar.has_word.Given as goal

abbrev pub invariant-loop-statement : goal.invariant-loop-statement
invariant-loop-statement l =
    has_word l.word (row (row_view (drop l.statement-index l.statements))) ≡ has_word l.word (row (row_view l.statements))

use Rattle.std.proofs.Common.{◌≡◌, drop}
use Rattle.ytext.specs.View.{row_view}
use Rattle.ybase_words.specs.KeywordView.{keyword_view}
use Rattle.ylink_grammar.specs.Counts.{lacks}
use Rattle.ylink_grammar.proofs.grammar.lacks.Given as goal

abbrev pub invariant-loop-statement : goal.invariant-loop-statement
invariant-loop-statement l =
    lacks (row_view (drop l.statement-index l.statements)) (keyword_view l.keyword) ≡ lacks (row_view l.statements) (keyword_view l.keyword)

use Rattle.std.proofs.Common.{◌≡◌, drop}
use Rattle.std.specs.Prelude.{map}
use Rattle.std.specs.List.{list_any}
use Rattle.ytext.specs.View.{row_view}
use Rattle.ybase_words.specs.KeywordView.{keyword_view}
use Rattle.ylink_grammar.specs.Counts.{lacks}
use Rattle.ylink_grammar.proofs.grammar.lacks_any.Given as goal

abbrev pub invariant-loop-keyword : goal.invariant-loop-keyword
invariant-loop-keyword l =
    list_any (lacks (row_view l.statements)) (map keyword_view (drop l.keyword-index l.keywords)) ≡ list_any (lacks (row_view l.statements)) (map keyword_view l.keywords)

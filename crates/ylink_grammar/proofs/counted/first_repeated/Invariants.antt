use Rattle.std.proofs.Common.{◌≡◌, drop, map}
use Rattle.ytext.specs.View.{row_view}
use Rattle.ylink_grammar.specs.LanguageView.{language_view}
use Rattle.ylink_grammar.specs.Miscounted.{first_miscounted}
use Rattle.ylink_grammar.specs.TableView.{once}
use Rattle.ylink_grammar.specs.WordView.{word_view}
use Rattle.ylink_grammar.proofs.counted.first_repeated.Given as goal

abbrev pub invariant-loop-word : goal.invariant-loop-word
invariant-loop-word l =
    first_miscounted (language_view l.language) (row_view l.statements) (map once (map word_view (drop l.word-index l.words)))
    ≡ first_miscounted (language_view l.language) (row_view l.statements) (map once (map word_view l.words))

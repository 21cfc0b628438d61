use Rattle.std.proofs.Common.{◌≡◌, drop}
use Rattle.std.specs.List.{list_any}
use Rattle.yspec.specs.Forest.{row}
use Rattle.yspec_wide.specs.StatementBreaks.{has_word}
use Rattle.ytext.specs.View.{row_view}
use Rattle.ylink_grammar.specs.LanguageView.{language_view}
use Rattle.ylink_grammar.specs.WordView.{word_view}
use Rattle.ylink_grammar.proofs.counted.has_any.Given as goal

abbrev pub invariant-loop-statement : goal.invariant-loop-statement
invariant-loop-statement l =
    let test = has_word (language_view l.language) (word_view l.word) in
    list_any test (row (row_view (drop l.statement-index l.statements))) ≡ list_any test (row (row_view l.statements))

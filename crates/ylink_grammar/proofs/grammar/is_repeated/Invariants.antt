use Rattle.std.proofs.Common.{◌≡◌, false, drop}
use Rattle.yspec.specs.Forest.{row}
use Rattle.yspec_wide.specs.StatementBreaks.{has_word}
use Rattle.ytext.specs.View.{row_view}
use Rattle.ylink_grammar.specs.Counts.{repeats}
use Rattle.ylink_grammar.specs.LanguageView.{language_view}
use Rattle.ylink_grammar.specs.WordView.{word_view}
use Rattle.ylink_grammar.proofs.grammar.is_repeated.Given as goal

abbrev pub invariant-loop-statement : goal.invariant-loop-statement
invariant-loop-statement l =
    let test = has_word (language_view l.language) (word_view l.word) in
    repeats test l.found (row (row_view (drop l.statement-index l.statements))) ≡ repeats test false (row (row_view l.statements))

use Rattle.std.proofs.Common.{◌≡◌, drop}
use Rattle.yspec.specs.schema.Breaks.{least_from}
use Rattle.yspec_wide.specs.StatementBreaks.{row_breaks_in}
use Rattle.ytext.specs.View.{row_view}
use Rattle.ylink_conditions.specs.View.{version_view}
use Rattle.ylink_grammar.specs.LanguageView.{language_view}
use Rattle.ylink_grammar.specs.TableView.{rows_view}
use Rattle.ylink_grammar.specs.BreakView.{seen}
use Rattle.ylink_grammar.proofs.grammar.+judge.Given as goal

abbrev pub invariant-judge_row-loop-statement : goal.invariant-judge_row-loop-statement
invariant-judge_row-loop-statement l =
    let told_below = row_breaks_in (language_view l.reading.language.now) (version_view l.reading.version) l.reading.«module» (rows_view l.rule) in
    least_from (seen l.told) (told_below (row_view (drop l.statement-index l.statements)))
    ≡ least_from (seen l.fn.told) (told_below (row_view l.statements))

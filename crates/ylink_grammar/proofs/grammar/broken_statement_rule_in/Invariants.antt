use Rattle.std.proofs.Common.{◌≡◌, drop, None}
use Rattle.yspec.specs.schema.Breaks.{least_from}
use Rattle.yspec_wide.specs.StatementBreaks.{breaks_in_from}
use Rattle.ytext.specs.View.{modules_view}
use Rattle.ylink_grammar.specs.BreakView.{seen}
use Rattle.ylink_grammar.specs.LanguageView.{language_view}
use Rattle.ylink_grammar.proofs.grammar.broken_statement_rule_in.Given as goal

abbrev pub invariant-loop-module : goal.invariant-loop-module
invariant-loop-module l =
    let language = language_view l.language in
    least_from (seen l.told) (breaks_in_from language l.«module» (modules_view (drop l.«module» l.modules)))
    ≡ least_from None (breaks_in_from language 0 (modules_view l.modules))

use Rattle.std.proofs.Common.{ap, rules, ◌∙◌}
use Rattle.std.proofs.lemmas.Result.{IfOk-weaker}
use Rattle.yspec.specs.linking.Keyword.{module_word}
use Rattle.yspec.specs.schema.Breaks.{least_from}
use Rattle.yspec_wide.specs.Words.{known}
use Rattle.yspec_wide.specs.StatementBreaks.{own_breaks}
use Rattle.ytext.specs.View.{view, row_view}
use Rattle.ylink_conditions.specs.View.{version_view}
use Rattle.ylink_grammar.specs.LanguageView.{language_view}
use Rattle.ylink_grammar.specs.TableView.{rows_view}
use Rattle.ylink_grammar.specs.BreakView.{seen}
use Rattle.ylink_grammar.proofs.JudgeLemmas.{judged_top}
use Rattle.ylink_grammar.proofs.grammar.judge_top.Goals as goal

pub returns : goal.returns
returns c =
    let s = c.args.statement.now in
    IfOk-weaker c.judge_row.result _ _
    (λ u e. judged_top (language_view c.args.language.now) (version_view c.version_in.result) c.args.«module» (view s).0 (view s).1 (row_view c.substatements.result.now)
    (rows_view c.rule_in-rule.result) (seen c.args.told.now)
    (seen c.judge_alone.new.told) (seen c.judge_row.new.told) (search rules) c.version_in.ensures
    (c.in_ok-judge_alone.ensures ∙ ap (λ r. least_from (seen c.args.told.now) (own_breaks (language_view c.args.language.now) (version_view c.version_in.result) c.args.«module»
    r.form (known module_word) (view s).0 (view s).1)) c.rule_in-rule.ensures.rule) c.substatements.ensures.below
    (ap (λ r. r.substatements) c.rule_in-rule.ensures.rule) e)
    c.judge_row.ensures

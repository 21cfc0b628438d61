use Rattle.std.proofs.Common.{length, sym, ap, arith, rules, ◌∙◌}
use Rattle.std.proofs.lemmas.Bool.{eqb-true}
use Rattle.std.proofs.lemmas.Result.{IfOk-weaker}
use Rattle.yspec.specs.schema.Breaks.{least_from}
use Rattle.yspec_wide.specs.StatementBreaks.{form_at, own_breaks}
use Rattle.ytext.specs.View.{view, row_view}
use Rattle.ylink_conditions.specs.View.{version_view}
use Rattle.ylink_grammar.specs.LanguageView.{language_view}
use Rattle.ylink_grammar.specs.TableView.{rows_view}
use Rattle.ylink_grammar.specs.WordView.{word_view}
use Rattle.ylink_grammar.specs.BreakView.{seen}
use Rattle.ylink_grammar.proofs.JudgeLemmas.{judged_extension, judged_known, judged_leaf, judged_row, not_prefixed}
use Rattle.ylink_grammar.proofs.grammar.+judge.Goals as goal

pub judge-returns-then-is : goal.judge-returns-then-is
judge-returns-then-is t c =
    let s = view c.args.statement.now in
    judged_extension (language_view c.args.reading.language.now) (version_view c.args.reading.version) c.args.reading.«module» (rows_view c.args.rule.now)
    s.0 s.1 _ (word_view c.in-Some.word) (seen c.args.told.now) c.in-Some.ensures (sym c.if-is.ensures)

pub judge-returns-then-is_empty : goal.judge-returns-then-is_empty
judge-returns-then-is_empty t c =
    let s = c.args.statement.now in
    let l = language_view c.args.reading.language.now in
    let allowed = rows_view c.args.rule.now in
    let w = word_view c.in-Some.word in
    let below = c.substatements-below.result.now in
    let alone = c.in_ok-judge_alone-in-Some.ensures ∙ ap (λ f. least_from (seen c.args.told.now)
    (own_breaks l (version_view c.args.reading.version) c.args.reading.«module» f w (view s).0 (view s).1))
    (c.form_at-form.ensures ∙ ap (λ r. form_at l allowed w r.form) c.rule_in-own.ensures.rule) in
    judged_leaf l (version_view c.args.reading.version) c.args.reading.«module» allowed (view s).0 (view s).1 below w (seen c.args.told.now) (seen c.judge_alone.new.told)
    (not_prefixed l allowed (view s).0.keyword w c.in-Some.ensures) c.in-Some.ensures (sym c.if-is.ensures)
    alone c.substatements-below.ensures.below (eqb-true (length below) 0 (sym c.if-is_empty.ensures))

pub judge-returns-else-is_empty : goal.judge-returns-else-is_empty
judge-returns-else-is_empty t c =
    let s = c.args.statement.now in
    let l = language_view c.args.reading.language.now in
    let allowed = rows_view c.args.rule.now in
    let w = word_view c.in-Some.word in
    let alone = c.in_ok-judge_alone-in-Some.ensures ∙ ap (λ f. least_from (seen c.args.told.now)
    (own_breaks l (version_view c.args.reading.version) c.args.reading.«module» f w (view s).0 (view s).1))
    (c.form_at-form.ensures ∙ ap (λ r. form_at l allowed w r.form) c.rule_in-own.ensures.rule) in
    IfOk-weaker c.judge_row.result _ _
    (λ u e. judged_known l (version_view c.args.reading.version) c.args.reading.«module» allowed (view s).0 (view s).1 (row_view c.substatements-below.result.now)
    w (rows_view c.rule_in-own.result) (seen c.args.told.now) (seen c.judge_alone.new.told) (seen c.judge_row.new.told)
    (not_prefixed l allowed (view s).0.keyword w c.in-Some.ensures) c.in-Some.ensures
    (sym c.if-is.ensures) alone c.substatements-below.ensures.below (ap (λ r. r.substatements) c.rule_in-own.ensures.rule) e)
    c.judge_row.ensures

pub judge_row-loop-statement-preserved : goal.judge_row-loop-statement-preserved
judge_row-loop-statement-preserved t c =
    judged_row (language_view c.args.reading.language.now) (version_view c.args.reading.version) c.args.reading.«module» (rows_view c.args.rule.now)
    c.args.statements.now c.loop-statement.statement-index c.statement-item.result
    (seen c.loop-statement.told) (seen c.judge.new.told) _ (omega arith) (search rules) c.in_ok-judge.ensures c.loop-statement.invariant

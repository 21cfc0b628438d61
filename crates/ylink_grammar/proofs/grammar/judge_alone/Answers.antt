use Rattle.std.proofs.Common.{[], ◌∷◌, ◌++◌, ap, ap₂, not, ◌∙◌}
use Rattle.yspec.specs.schema.Breaks.{broken, least_from, when}
use Rattle.std.specs.List.{list_any}
use Rattle.yspec_wide.specs.Table.{rule_in}
use Rattle.yspec_wide.specs.StatementBreaks.{argument_breaks, type_breaks, version_breaks, count_breaks, is_miscounted}
use Rattle.ytext.specs.View.{view}
use Rattle.ylink_conditions.specs.View.{version_view}
use Rattle.ylink_grammar.specs.BreakView.{break_view, seen}
use Rattle.ylink_grammar.specs.FormView.{wide_form_view}
use Rattle.ylink_grammar.specs.LanguageView.{language_view}
use Rattle.ylink_grammar.specs.WordView.{word_view}
use Rattle.ylink_grammar.proofs.JudgeLemmas.{judged_alone, unbroken}
use Rattle.ylink_grammar.proofs.WordLemmas.{type_alike, version_alike}
use Rattle.ylink_grammar.proofs.grammar.judge_alone.Goals as goal

pub returns-then-not-miscounted : goal.returns-then-not-miscounted
returns-then-not-miscounted c =
    let m = c.args.reading.«module» in
    let l = language_view c.args.reading.language.now in
    let v = version_view c.args.reading.version in
    let w = word_view c.args.word in
    let s = (view c.args.statement.now).0 in
    let below = (view c.args.statement.now).1 in
    let fitting = c.in_ok-unfitting.ensures in
    let counted = c.is_miscounted-miscounted.ensures ∙ ap (λ r. list_any (is_miscounted l below) r.substatements) c.requires.rule in
    let told = seen c.args.told.now in
    unbroken told _ _ _ _ (broken 3 m s.line) (broken 1 m s.line) (broken 4 m s.line) (broken 2 m s.line) c.if-not-miscounted.true
    ∙ ap (least_from told) (ap₂ (λ x y. x ++ y) (ap (λ b. when (not b) (broken 3 m s.line)) fitting)
    (ap₂ (λ x y. x ++ y) (ap (λ b. when b (broken 1 m s.line)) c.is_type_outside-outside.ensures ∙ type_alike l m w s)
    (ap₂ (λ x y. x ++ y) (ap (λ b. when b (broken 4 m s.line)) c.is_wrongly_versioned-misversioned.ensures ∙ version_alike l m w s below)
    (ap (λ b. when b (broken 2 m s.line)) counted))))

pub returns : goal.returns
returns c =
    let m = c.args.reading.«module» in
    let l = language_view c.args.reading.language.now in
    let v = version_view c.args.reading.version in
    let w = word_view c.args.word in
    let s = (view c.args.statement.now).0 in
    let below = (view c.args.statement.now).1 in
    let fitting = c.in_ok-unfitting.ensures in
    let counted = c.is_miscounted-miscounted.ensures ∙ ap (λ r. list_any (is_miscounted l below) r.substatements) c.requires.rule in
    judged_alone (seen c.args.told.now) (seen c.least_when-first.result) (seen c.least_when-first-2.result) (seen c.least_when-first-3.result)
    (seen c.least_when.result) (when _ (break_view c.broken.result ∷ [])) (when _ (break_view c.broken-2.result ∷ []))
    (when _ (break_view c.broken-3.result ∷ [])) (when _ (break_view c.broken-4.result ∷ []))
    (argument_breaks m v (wide_form_view c.args.form) s) (type_breaks l m w s) (version_breaks l m w s below) (count_breaks l m s below (rule_in l v w).substatements)
    c.least_when-first.ensures c.least_when-first-2.ensures c.least_when-first-3.ensures c.least_when.ensures
    (ap₂ (λ b x. when (not b) (break_view x ∷ [])) fitting c.broken.ensures)
    (ap₂ (λ b x. when b (break_view x ∷ [])) c.is_type_outside-outside.ensures c.broken-2.ensures ∙ type_alike l m w s)
    (ap₂ (λ b x. when b (break_view x ∷ [])) c.is_wrongly_versioned-misversioned.ensures c.broken-3.ensures ∙ version_alike l m w s below)
    (ap₂ (λ b x. when b (break_view x ∷ [])) counted c.broken-4.ensures)

use Rattle.std.proofs.Common.{◌||◌, map, sym, ap, ap₂, ◌∙◌}
use Rattle.std.specs.List.{list_any}
use Rattle.yspec.specs.linking.StatementBreaks as narrow
use Rattle.ytext.specs.View.{view}
use Rattle.ylink_grammar.specs.Counts.{is_repeated}
use Rattle.ylink_grammar.specs.LanguageView.{language_view}
use Rattle.ylink_grammar.specs.TableView.{allowed_views}
use Rattle.ylink_grammar.specs.WordView.{word_view}
use Rattle.ylink_grammar.proofs.WordLemmas.{or_first, rows_alike}
use Rattle.ylink_grammar.proofs.grammar.is_miscounted.Goals as goal

pub returns-then-repeats_any : goal.returns-then-repeats_any
returns-then-repeats_any c =
    let l = language_view c.args.language.now in
    let rule = c.args.rule.now in
    let below = (view c.args.statement.now).1 in
    let single = map word_view rule.once.now in
    let before = list_any (narrow.is_miscounted below) (allowed_views rule.substatements.now) in
    or_first c.repeats_any.result before c.if-repeats_any.true
    ∙ (ap (λ b. b || before) (c.repeats_any.ensures ∙ ap (λ f. list_any (is_repeated l f) single) c.substatements.ensures.below)
    ∙ sym (rows_alike l below single (map word_view rule.ahead.now) (allowed_views rule.substatements.now) (map word_view rule.behind.now)))

pub returns-else-repeats_any : goal.returns-else-repeats_any
returns-else-repeats_any c =
    let l = language_view c.args.language.now in
    let rule = c.args.rule.now in
    let below = (view c.args.statement.now).1 in
    let single = map word_view rule.once.now in
    ap (λ b. b || c.is_miscounted_before.result) (sym c.if-repeats_any.false)
    ∙ (ap₂ (λ a b. a || b) (c.repeats_any.ensures ∙ ap (λ f. list_any (is_repeated l f) single) c.substatements.ensures.below) c.is_miscounted_before.ensures
    ∙ sym (rows_alike l below single (map word_view rule.ahead.now) (allowed_views rule.substatements.now) (map word_view rule.behind.now)))

use Rattle.std.proofs.Common.{sym, ap, ◌∙◌}
use Rattle.std.specs.List.{list_any}
use Rattle.yspec.specs.linking.StatementBreaks as spec
use Rattle.ytext.specs.View.{row_view}
use Rattle.ylink_grammar.specs.Counts.{lacks}
use Rattle.ylink_grammar.specs.TableView.{allowed_views}
use Rattle.ylink_grammar.proofs.GrammarLemmas.{all_miscounted, only_missing}
use Rattle.ylink_grammar.proofs.grammar.is_miscounted_before.Goals as goal

pub returns-then-are_apart : goal.returns-then-are_apart
returns-then-are_apart c =
    let allowed = allowed_views c.args.rule.now.substatements.now in
    let f = row_view c.substatements-statements.result.now in
    c.lacks_any.ensures
    ∙ ap (list_any (lacks f)) (c.needs_in.ensures ∙ sym c.requires)
    ∙ only_missing f (sym c.are_apart.ensures ∙ c.if-are_apart.true) allowed
    ∙ ap (λ g. list_any (spec.is_miscounted g) allowed) c.substatements-statements.ensures.below

pub returns : goal.returns
returns c =
    let allowed = allowed_views c.args.rule.now.substatements.now in
    c.has_wrong_counts.ensures
    ∙ all_miscounted c.counts_of-counts.result (row_view c.substatements-statements.result.now) c.counts_of-counts.ensures allowed
    ∙ ap (λ f. list_any (spec.is_miscounted f) allowed) c.substatements-statements.ensures.below

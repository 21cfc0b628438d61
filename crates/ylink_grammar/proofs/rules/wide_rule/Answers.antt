use Rattle.std.proofs.Common.{sym, ap, ◌∙◌}
use Rattle.yspec_wide.specs.Table as wide
use Rattle.ylink_conditions.specs.View.{version_view}
use Rattle.ylink_grammar.specs.WordView.{word_view}
use Rattle.ylink_grammar.proofs.rules.wide_rule.Goals as goal

pub returns-in-Must-clause-rule : goal.returns-in-Must-clause-rule
returns-in-Must-clause-rule c =
    let version = version_view c.args.version in
    c.rule_of_must.ensures.rule version ∙ ap (λ w. wide.wide_rule version (word_view w)) (sym c.in-Must.is)

pub returns-in-When-clause-rule : goal.returns-in-When-clause-rule
returns-in-When-clause-rule c =
    let version = version_view c.args.version in
    c.rule_of_when.ensures.rule version ∙ ap (λ w. wide.wide_rule version (word_view w)) (sym c.in-When.is)

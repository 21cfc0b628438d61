use Rattle.std.proofs.Common.{None, ap, ◌∙◌}
use Rattle.yspec.specs.schema.Breaks.{least_from}
use Rattle.ylink_grammar.specs.LanguageView.{language_view}
use Rattle.yschema_resolve.proofs.AdditionLemmas.{breaks_same}
use Rattle.yschema_resolve.proofs.additions.broken_addition_rule.Goals as goal

pub returns : goal.returns
returns c = λ tells. c.least_of_all.ensures ∙ ap (least_from None) (breaks_same (language_view c.args.language.now) c.args.plan.now c.args.standing.now c.as_slice-2.result.now tells
    (c.as_slice-2.ensures.value ∙ c.in_ok-inside.ensures))

pub least_of_all-requires-clause-needs : goal.least_of_all-requires-clause-needs
least_of_all-requires-clause-needs c = c.as_slice.ensures.value ∙ c.in_ok-needs.ensures

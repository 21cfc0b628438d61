use Rattle.std.proofs.Common.{sym, subst, ◌∙◌}
use Rattle.yspec.specs.document.Play.{stored_cases, or_default}
use Rattle.yschema_model.specs.Layout.{number_of}
use Rattle.ycheck.specs.Cases.{Chooses}
use Rattle.ycheck.specs.declared.cases.Chosen.TheVariants as chosen
use Rattle.ycheck.proofs.CaseLemmas.{none_chosen, default_chosen, stored_chosen}
use Rattle.ycheck.proofs.cases.Chosen.of.Goals as goal

pub returns-in-Zero-Some-clause-chooses : goal.returns-in-Zero-Some-clause-chooses
returns-in-Zero-Some-clause-chooses c = λ stored k cases numbered is.
    subst (λ d. Chooses (chosen.Only c.in-Zero-Some.id) stored (or_default (number_of d) (stored_cases stored cases)) cases) (sym c.in-Zero-Some.is-1)
    (default_chosen stored c.in-Zero-Some.id cases (sym c.in-Zero-Some.is-0 ∙ is))

pub returns-in-Zero-None-clause-chooses : goal.returns-in-Zero-None-clause-chooses
returns-in-Zero-None-clause-chooses c = λ stored k cases numbered is.
    subst (λ d. Chooses chosen.NoCase stored (or_default (number_of d) (stored_cases stored cases)) cases) (sym c.in-Zero-None.is-1)
    (none_chosen stored cases (sym c.in-Zero-None.is-0 ∙ is))

pub returns-in_default-clause-chooses : goal.returns-in_default-clause-chooses
returns-in_default-clause-chooses c = λ stored k cases numbered is.
    stored_chosen stored (number_of c.args.default_case) c.args.with_stored cases k c.in_default.not-Zero-0 numbered is

use Rattle.std.proofs.Common.{sym, subst, arith}
use Rattle.yspec_fit.specs.Fit.{IsFit}
use Rattle.yschema_model.specs.View.{view}
use Rattle.yschema_model.proofs.ConfigurationLemmas.{length-asked, asked_laid_out, asked_named, asked_written, asked_referred, asked_view, configuration_fit}
use Rattle.yschema_model.proofs.schema.Schema.configuration.Goals as goal

pub invariant_of-result-clause-numbered : goal.invariant_of-result-clause-numbered
invariant_of-result-clause-numbered c =
    let same = length-asked c.args.self.slots.items c.in_ok-slots.slots.items c.in_ok-slots.ensures in
    omega (arith, same, c.args.self.slots.ok.0, c.in_ok-slots.slots.ok.0, c.args.self.numbered)

pub invariant_of-result-clause-laid_out : goal.invariant_of-result-clause-laid_out
invariant_of-result-clause-laid_out c =
    asked_laid_out c.args.self.slots.items c.in_ok-slots.slots.items c.in_ok-slots.ensures c.args.self.laid_out

pub invariant_of-result-clause-named : goal.invariant_of-result-clause-named
invariant_of-result-clause-named c =
    asked_named c.args.self.index c.args.self.slots.items c.in_ok-slots.slots.items c.in_ok-slots.ensures c.args.self.named

pub invariant_of-result-clause-written : goal.invariant_of-result-clause-written
invariant_of-result-clause-written c =
    asked_written c.args.self.index c.args.self.slots.items c.in_ok-slots.slots.items c.in_ok-slots.ensures c.args.self.written

pub invariant_of-result-clause-referred : goal.invariant_of-result-clause-referred
invariant_of-result-clause-referred c =
    asked_referred c.args.self.references c.args.self.slots.items c.in_ok-slots.slots.items c.in_ok-slots.ensures c.args.self.referred

pub invariant_of-result-clause-fit : goal.invariant_of-result-clause-fit
invariant_of-result-clause-fit c =
    let is = asked_view c.args.self.modules.items c.args.self.slots.items c.in_ok-slots.slots.items c.in_ok-slots.ensures in
    subst (λ s. ∥ IsFit s ∥₁) (sym is) (configuration_fit (view c.args.self) c.args.self.fit)

pub returns : goal.returns
returns c = asked_view c.args.self.modules.items c.args.self.slots.items c.in_ok-slots.slots.items c.in_ok-slots.ensures

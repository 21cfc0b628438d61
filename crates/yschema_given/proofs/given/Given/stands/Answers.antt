use Rattle.std.proofs.Common.{◌≡◌, sym, ◌∙◌, subst}
use Rattle.yschema_given.specs.GivenView.{stated_with}
use Rattle.yschema_given.specs.Holding.{holds_in, kept_hold}
use Rattle.yschema_given.proofs.HoldingLemmas.{hold_default}
use Rattle.yschema_given.proofs.given.Given.stands.Goals as goal

pub returns-in-NoDefault : goal.returns-in-NoDefault
returns-in-NoDefault c = λ own is.
    let holds = holds_in c.args.holding.now in
    subst (λ g. c.args.before ≡ kept_hold holds (stated_with g own)) (sym c.in-NoDefault.is) (is ∙ sym (hold_default holds own))

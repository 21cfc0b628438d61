use Rattle.std.proofs.Common.{sym, ap, ◌∙◌}
use Rattle.ytype_simple.specs.Founds.{now_of}
use Rattle.ytype_simple.specs.View.{found_of}
use Rattle.ytype_simple.proofs.LimitLemmas.{not_this, is_this}
use Rattle.ytype_simple.proofs.simple.excluding.Goals as goal

pub returns-in-Some : goal.returns-in-Some
returns-in-Some c =
    is_this c.args.limits.now c.limits.index (found_of c.args.found.now) c.in-Some.limit.now (sym (ap now_of c.in-Some.is) ∙ c.in_ok-excluding_at.ensures)
    ∙ c.limits.invariant

pub limits-preserved : goal.limits-preserved
limits-preserved c =
    not_this c.args.limits.now c.limits.index (found_of c.args.found.now) (sym (ap now_of c.in-None.is) ∙ c.in_ok-excluding_at.ensures)
    ∙ c.limits.invariant

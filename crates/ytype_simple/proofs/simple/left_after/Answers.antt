use Rattle.std.proofs.Common.{◌≡◌, ◌+◌, ◌-◌, ℕ, Some, None, take, sym, ap, ◌∙◌, arith}
use Rattle.yspec.specs.types.Restriction.{left_after}
use Rattle.ytype_simple.specs.Founds.{now_of}
use Rattle.ytype_simple.proofs.LimitLemmas.{left_by_last}
use Rattle.ytype_simple.proofs.simple.left_after.Goals as goal

pub loop-count-preserved : goal.loop-count-preserved
loop-count-preserved c =
    let ls = c.args.limits.now in let parts = c.args.parts.now in let i = c.loop-count.count - 1 in
    let next : i + 1 ≡ c.loop-count.count = omega (arith, c.loop-count-test.true) in
    sym (left_by_last parts ls i None (sym (ap now_of c.in-None.is) ∙ c.numbers_at.ensures))
    ∙ (ap (λ (n : ℕ). left_after parts (take n ls)) next ∙ c.loop-count.invariant)

pub returns-in-Some : goal.returns-in-Some
returns-in-Some c =
    let ls = c.args.limits.now in let parts = c.args.parts.now in let i = c.loop-count.count - 1 in
    let next : i + 1 ≡ c.loop-count.count = omega (arith, c.loop-count-test.true) in
    sym (left_by_last parts ls i (Some c.in-Some.numbers.now) (sym (ap now_of c.in-Some.is) ∙ c.numbers_at.ensures))
    ∙ (ap (λ (n : ℕ). left_after parts (take n ls)) next ∙ c.loop-count.invariant)

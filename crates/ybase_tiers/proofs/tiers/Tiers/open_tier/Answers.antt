use Rattle.std.proofs.Common.{arith, ◌≡◌, ◌∙◌, ◌+◌, ◌*◌, ◌++◌, true, ap, drop, length, ltb, subst, sym, take}
use Rattle.std.specs.List.{list_all}
use Rattle.ybase_tiers.specs.Order.{from_start, in_order}
use Rattle.ybase_tiers.proofs.ListLemmas.{all_but_last}
use Rattle.ybase_tiers.proofs.TierLemmas.{opened_is}
use Rattle.ybase_tiers.proofs.tiers.Tiers.open_tier.Goals as goal

pub invariant_of-self-clause-within : goal.invariant_of-self-clause-within
invariant_of-self-clause-within g c =
    let old = c.args.self.now in
    let left = c.take_last-start.new.self.items in
    (all_but_last (λ s. ltb s 1024) left c.take_last-start.result (subst (λ ss. list_all (λ s. ltb s 1024) ss ≡ true) c.take_last-start.ensures.items old.within)).0

pub returns-then-len-clause-row : goal.returns-then-len-clause-row
returns-then-len-clause-row g c =
    let old = c.args.self.now in
    let places = old.places.items in
    let left = c.take_last-start.new.self.items in
    let start = c.take_last-start.result in
    let all : length left * 1024 + 1024 ≡ length places =
    omega (arith, c.if-len.true, c.len.ensures, c.len-2.ensures, old.places.ok.0, old.starts.ok.0, c.take_last-start.ensures.len, c.take_last-start.new.self.ok.0) in
    let there : c.len-end.result * 1024 ≡ length left * 1024 = omega (arith, c.len-end.ensures, c.take_last-start.new.self.ok.0) in
    ap (in_order 1024 left) c.unroll.ensures.items
    ∙ (ap (λ e. in_order 1024 left (take e places ++ from_start start (drop e places))) there
    ∙ sym (ap (λ ss. in_order 1024 ss places) c.take_last-start.ensures.items ∙ opened_is left start places all))

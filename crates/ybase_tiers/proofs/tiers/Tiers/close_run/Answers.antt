use Rattle.std.proofs.Common.{◌∙◌, ap, ltb, refl}
use Rattle.ybase_tiers.specs.Order.{in_order}
use Rattle.ybase_tiers.proofs.ListLemmas.{all_push}
use Rattle.ybase_tiers.proofs.OrderLemmas.{closed}
use Rattle.ybase_tiers.proofs.tiers.Tiers.close_run.Goals as goal

pub invariant_of-self-clause-within : goal.invariant_of-self-clause-within
invariant_of-self-clause-within g c =
    let old = c.args.self.now in rw c.push_reserved.ensures.items (all_push (λ s. ltb s 1024) old.starts.items 0 old.within refl)

pub returns-then-len-eq-TIER-clause-row : goal.returns-then-len-eq-TIER-clause-row
returns-then-len-eq-TIER-clause-row g c =
    let old = c.args.self.now in
    ap (λ ss. in_order 1024 ss old.places.items) c.push_reserved.ensures.items ∙ closed 1024 old.starts.items old.places.items

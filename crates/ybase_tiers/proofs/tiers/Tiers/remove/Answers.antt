use Rattle.std.proofs.Common.{arith, ◌≡◌, ◌≤◌, ◌∙◌, ◌*◌, ap, insert, length, remove, slice_get, sym}
use Rattle.ybase_tiers.specs.Tiers.{end_of, tiered}
use Rattle.ybase_tiers.proofs.ListLemmas.{put_back, put_in, taken_out}
use Rattle.ybase_tiers.proofs.OrderLemmas.{length_in_order}
use Rattle.ybase_tiers.proofs.tiers.Tiers.remove.Goals as goal

pub returns-then-place-end : goal.returns-then-place-end
returns-then-place-end g c =
    let old = c.args.self.now in
    let place = c.args.place in
    let one = tiered c.open_tier.new.self in
    let two = tiered c.remove_open-first.new.self in
    let last = tiered c.shift_back.new.self in
    let end = c.len-end.result * 1024 in
    let out = c.shift_back.result in
    let there : end_of c.remove_open-first.new.self ≡ end = omega (arith, c.len-end.ensures, c.open_tier.new.self.starts.ok.0, c.remove_open-first.ensures.tiers) in
    let whole : insert last place out ≡ tiered old = c.shift_back.ensures.row
    ∙ (c.pass_back-first.ensures.row
    ∙ (ap (λ k. insert two k c.remove_open-first.result) there
    ∙ (ap (λ row. insert row end c.remove_open-first.result) c.remove_open-first.ensures.row
    ∙ (put_back one end c.remove_open-first.result c.remove_open-first.ensures.value ∙ c.open_tier.ensures.row)))) in
    let within : place ≤ length last =
    omega (arith, c.requires, length_in_order 1024 old.starts.items old.places.items, length_in_order 1024 c.shift_back.new.self.starts.items c.shift_back.new.self.places.items, c.shift_back.ensures.len, c.pass_back-first.ensures.len, c.remove_open-first.ensures.len, c.open_tier.ensures.len) in
    record {
      row = sym (taken_out last place out within) ∙ ap (λ row. remove row place) whole;
      value = ap (λ row. slice_get row place) (sym whole) ∙ put_in last place out within;
      room = c.shift_back.ensures.room ∙ (c.pass_back-first.ensures.room ∙ (c.remove_open-first.ensures.room ∙ c.open_tier.ensures.room));
      spare = omega (arith, length_in_order 1024 c.shift_back.new.self.starts.items c.shift_back.new.self.places.items, c.shift_back.ensures.len, c.pass_back-first.ensures.len, c.remove_open-first.ensures.len, c.open_tier.new.self.places.ok.0, c.open_tier.new.self.places.ok.1, c.shift_back.ensures.room, c.pass_back-first.ensures.room, c.remove_open-first.ensures.room);
    }

pub returns-else-place-end-clause-spare : goal.returns-else-place-end-clause-spare
returns-else-place-end-clause-spare g c =
    let new = c.remove_open.new.self in
    omega (arith, length_in_order 1024 new.starts.items new.places.items, c.remove_open.ensures.len, c.remove_open.ensures.room, c.open_tier.new.self.places.ok.0, c.open_tier.new.self.places.ok.1)

pub remove_open-first-requires-clause-within : goal.remove_open-first-requires-clause-within
remove_open-first-requires-clause-within g c =
    omega (arith, c.open_tier.ensures.run, c.len-end.ensures, c.open_tier.new.self.starts.ok.0)

pub remove_open-requires-clause-within : goal.remove_open-requires-clause-within
remove_open-requires-clause-within g c =
    let old = c.args.self.now in omega (arith, c.requires, length_in_order 1024 old.starts.items old.places.items, c.open_tier.ensures.len)

pub open_tier-requires : goal.open_tier-requires
open_tier-requires g c = let old = c.args.self.now in omega (arith, c.requires, length_in_order 1024 old.starts.items old.places.items)

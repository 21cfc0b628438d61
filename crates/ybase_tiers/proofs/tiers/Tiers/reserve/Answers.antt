use Rattle.std.proofs.Common.{arith}
use Rattle.ybase_tiers.proofs.OrderLemmas.{length_in_order}
use Rattle.ybase_tiers.proofs.tiers.Tiers.reserve.Goals as goal

pub returns-then-len-capacity-clause-room : goal.returns-then-len-capacity-clause-room
returns-then-len-capacity-clause-room g c =
    let old = c.args.self.now in
    omega (arith, c.if-len-capacity.true, c.len-len.ensures, c.capacity.ensures, old.places.ok.0, length_in_order 1024 old.starts.items old.places.items)

pub returns-clause-room : goal.returns-clause-room
returns-clause-room g c =
    let places = c.reserve_exact-2.new.self in
    omega (arith, length_in_order 1024 c.reserve_exact.new.self.items places.items, places.ok.0, c.reserve_exact-2.ensures.len, c.in_ok-reserve_exact-2.ensures.ok, c.len-len.ensures, c.max.ensures, c.in-Some.ensures)

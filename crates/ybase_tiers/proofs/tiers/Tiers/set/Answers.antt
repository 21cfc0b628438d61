use Rattle.std.proofs.Common.{arith}
use Rattle.ybase_tiers.proofs.OrderLemmas.{length_in_order}
use Rattle.ybase_tiers.proofs.tiers.Tiers.set.Goals as goal

pub replace-requires : goal.replace-requires
replace-requires g c = let old = c.args.self.now in omega (arith, c.requires, length_in_order 1024 old.starts.items old.places.items)

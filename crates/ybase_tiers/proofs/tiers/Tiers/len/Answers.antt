use Rattle.std.proofs.Common.{arith}
use Rattle.ybase_tiers.proofs.OrderLemmas.{length_in_order}
use Rattle.ybase_tiers.proofs.tiers.Tiers.len.Goals as goal

pub returns : goal.returns
returns g c =
    let old = c.args.self.now in omega (arith, c.len.ensures, old.places.ok.0, length_in_order 1024 old.starts.items old.places.items)

use Rattle.ybase_tiers.proofs.TierLemmas.{read_is}
use Rattle.ybase_tiers.proofs.tiers.Tiers.at.Goals as goal

pub returns : goal.returns
returns g c =
    let old = c.args.self.now in
    read_is old.starts.items old.places.items old.full c.args.place c.index_of.result c.index.result.now old.within c.index_of.ensures.index c.index.ensures

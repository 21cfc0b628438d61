use Rattle.std.proofs.Common.{length, refl}
use Rattle.std.proofs.lemmas.Option.{slice_get_read}
use Rattle.ybase_tiers.proofs.TierLemmas.{get_is, set_is}
use Rattle.ybase_tiers.proofs.tiers.Tiers.replace.Goals as goal

pub returns-clause-row : goal.returns-clause-row
returns-clause-row g c =
    let old = c.args.self.now in
    set_is old.starts.items old.places.items old.full c.args.place c.index_of-index.result c.args.x old.within c.index_of-index.ensures.index

pub returns-clause-value : goal.returns-clause-value
returns-clause-value g c =
    let old = c.args.self.now in
    let places = old.places.items in
    let index = c.index_of-index.result in
    let was = c.index-was.result.now in
    get_is old.starts.items places old.full c.args.place index was old.within c.index_of-index.ensures.index c.requires c.index_of-index.ensures.within
    (slice_get_read places (length places) index was refl c.index_of-index.ensures.within c.index-was.ensures)

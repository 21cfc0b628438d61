use Rattle.std.proofs.Common.{arith, length, refl, sym}
use Rattle.std.proofs.lemmas.Option.{slice_get_past, slice_get_read}
use Rattle.ybase_tiers.specs.Tiers.{tiered}
use Rattle.ybase_tiers.proofs.OrderLemmas.{length_in_order}
use Rattle.ybase_tiers.proofs.TierLemmas.{get_is}
use Rattle.ybase_tiers.proofs.tiers.Tiers.get.Goals as goal

pub returns-then-place-len : goal.returns-then-place-len
returns-then-place-len g c =
    let old = c.args.self.now in
    let places = old.places.items in
    let index = c.index_of.result in
    let within = c.index_of.ensures.within in
    sym
    (get_is old.starts.items places old.full c.args.place index c.index.result.now old.within c.index_of.ensures.index
    (omega (arith, c.if-place-len.true, c.len.ensures, old.places.ok.0)) within
    (slice_get_read places (length places) index c.index.result.now refl within c.index.ensures))

pub returns-else-place-len : goal.returns-else-place-len
returns-else-place-len g c =
    let old = c.args.self.now in
    sym
    (slice_get_past (tiered old) c.args.place
    (omega (arith, c.if-place-len.false, c.len.ensures, old.places.ok.0, length_in_order 1024 old.starts.items old.places.items)))

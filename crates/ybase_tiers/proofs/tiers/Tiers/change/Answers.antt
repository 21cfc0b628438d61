use Rattle.std.proofs.Common.{arith, ◌+◌, ◌*◌, length, length-set, ltb, refl}
use Rattle.std.proofs.lemmas.Bool.{lt-ltb}
use Rattle.std.proofs.lemmas.Option.{slice_get_read}
use Rattle.ybase_tiers.proofs.ListLemmas.{all_set}
use Rattle.ybase_tiers.proofs.tiers.Tiers.change.Goals as goal

pub invariant_of-self-clause-within : goal.invariant_of-self-clause-within
invariant_of-self-clause-within g c =
    let old = c.args.self.now in all_set (λ s. ltb s 1024) old.starts.items c.args.tier c.args.start old.within (lt-ltb c.args.start 1024 c.requires.start)

pub returns-clause-value : goal.returns-clause-value
returns-clause-value g c =
    let old = c.args.self.now in
    let places = old.places.items in
    let index = c.args.tier * 1024 + c.args.place in
    slice_get_read places (length places) index c.index-was.result.now refl (omega (arith, c.requires.tier, c.requires.place, old.full)) c.index-was.ensures

pub invariant_of-self-clause-full : goal.invariant_of-self-clause-full
invariant_of-self-clause-full g c =
    let old = c.args.self.now in
    omega (arith, length-set old.starts.items c.args.tier c.args.start, length-set old.places.items (c.args.tier * 1024 + c.args.place) c.args.x, old.full)

pub invariant_of-self-clause-open : goal.invariant_of-self-clause-open
invariant_of-self-clause-open g c =
    let old = c.args.self.now in
    omega (arith, length-set old.starts.items c.args.tier c.args.start, length-set old.places.items (c.args.tier * 1024 + c.args.place) c.args.x, old.open)

use Rattle.std.proofs.Common.{arith, ◌∙◌, ap, length, refl, sym}
use Rattle.std.proofs.lemmas.Option.{slice_get_read}
use Rattle.ybase_tiers.specs.Order.{in_order}
use Rattle.ybase_tiers.proofs.TierLemmas.{get_is, removed_is, stands_past}
use Rattle.ybase_tiers.proofs.tiers.Tiers.remove_open.Goals as goal

pub returns-clause-row : goal.returns-clause-row
returns-clause-row g c =
    let old = c.args.self.now in
    ap (in_order 1024 old.starts.items) c.remove.ensures.items ∙ removed_is old.starts.items old.places.items old.full c.args.place c.requires.run (omega (arith, c.requires.within))

pub returns-clause-value : goal.returns-clause-value
returns-clause-value g c =
    let old = c.args.self.now in
    let places = old.places.items in
    let place = c.args.place in
    get_is old.starts.items places old.full place place c.remove.result old.within (sym (stands_past old.starts.items place c.requires.run)) c.requires.within c.requires.within
    (slice_get_read places (length places) place c.remove.result refl c.requires.within c.remove.ensures.value)

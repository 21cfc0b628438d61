use Rattle.std.proofs.Common.{arith, ◌≡◌, ◌∙◌, ◌+◌, ◌-◌, ap, insert, length, sym}
use Rattle.ybase_tiers.specs.Order.{in_order}
use Rattle.ybase_tiers.proofs.MoveLemmas.{ends_within, moved}
use Rattle.ybase_tiers.proofs.tiers.Tiers.move_on.Goals as goal

pub place_first-requires-clause-within : goal.place_first-requires-clause-within
place_first-requires-clause-within g c =
    let old = c.args.self.now in
    ends_within old.starts.items (length old.places.items) c.args.place c.args.end c.index_of-index.result old.within old.full c.requires.order c.requires.within c.index_of-index.ensures.index c.requires.run

pub returns-clause-row : goal.returns-clause-row
returns-clause-row g c =
    let old = c.args.self.now in
    let starts = old.starts.items in
    let new = c.place_first.new.places.items in
    let place = c.args.place in
    let index = c.index_of-index.result in
    let n = c.args.end - place in
    let end : c.args.end ≡ place + n = omega (arith, c.requires.order) in
    let within = ends_within starts (length old.places.items) place c.args.end index old.within old.full c.requires.order c.requires.within c.index_of-index.ensures.index c.requires.run in
    ap (λ k. insert (in_order 1024 starts new) k c.place_first.result) end
    ∙ moved starts n old.places.items new place index c.args.x c.place_first.result old.within old.full c.place_first.ensures.len (omega (arith, c.requires.order, c.requires.within)) within
    (λ k less. c.requires.run k (omega (arith, less)) ∙ ap (λ i. i + k) (sym c.index_of-index.ensures.index)) c.place_first.ensures.items

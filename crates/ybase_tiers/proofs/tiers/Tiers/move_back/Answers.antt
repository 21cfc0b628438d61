use Rattle.std.proofs.Common.{arith, ◌≡◌, ◌∙◌, ◌+◌, ◌-◌, ap, insert, length, sym}
use Rattle.ybase_tiers.specs.Order.{in_order}
use Rattle.ybase_tiers.proofs.MoveLemmas.{ends_within, moved}
use Rattle.ybase_tiers.proofs.tiers.Tiers.move_back.Goals as goal

pub place_last-requires-clause-within : goal.place_last-requires-clause-within
place_last-requires-clause-within g c =
    let old = c.args.self.now in
    ends_within old.starts.items (length old.places.items) c.args.place c.args.end c.index_of-index.result old.within old.full c.requires.order c.requires.within c.index_of-index.ensures.index c.requires.run

pub returns-clause-row : goal.returns-clause-row
returns-clause-row g c =
    let old = c.args.self.now in
    let starts = old.starts.items in
    let new = c.place_last.new.places.items in
    let place = c.args.place in
    let index = c.index_of-index.result in
    let n = c.args.end - place in
    let end : place + n ≡ c.args.end = omega (arith, c.requires.order) in
    let within = ends_within starts (length old.places.items) place c.args.end index old.within old.full c.requires.order c.requires.within c.index_of-index.ensures.index c.requires.run in
    let long = c.place_last.ensures.len in
    sym
    (ap (λ k. insert (in_order 1024 starts old.places.items) k c.args.x) (sym end)
    ∙ moved starts n new old.places.items place index c.place_last.result c.args.x old.within (omega (arith, long, old.full)) (sym long) (omega (arith, long, c.requires.order, c.requires.within)) (omega (arith, long, within))
    (λ k less. c.requires.run k (omega (arith, less)) ∙ ap (λ i. i + k) (sym c.index_of-index.ensures.index)) (sym c.place_last.ensures.items))

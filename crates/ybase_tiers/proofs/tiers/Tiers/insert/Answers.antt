use Rattle.std.proofs.Common.{arith, ◌≡◌, ◌∙◌, ◌*◌, ap, insert}
use Rattle.ybase_tiers.specs.Tiers.{end_of, tiered}
use Rattle.ybase_tiers.proofs.OrderLemmas.{length_in_order}
use Rattle.ybase_tiers.proofs.tiers.Tiers.insert.Goals as goal

pub returns-then-place-end-clause-row : goal.returns-then-place-end-clause-row
returns-then-place-end-clause-row g c =
    let place = c.args.place in
    let third = tiered c.pass_on-last.new.self in
    let last = c.pass_on-last.result in
    let there : c.len-end.result * 1024 ≡ end_of c.pass_on-last.new.self =
    omega (arith, c.len-end.ensures, c.close_run.new.self.starts.ok.0, c.shift_on-last.ensures.tiers, c.pass_on-last.ensures.tiers) in
    c.insert_open.ensures.row
    ∙ (ap (λ k. insert third k last) there
    ∙ (c.pass_on-last.ensures.row
    ∙ (c.shift_on-last.ensures.row ∙ ap (λ row. insert row place c.args.x) c.close_run.ensures.row)))

pub close_run-requires : goal.close_run-requires
close_run-requires g c = let old = c.args.self.now in omega (arith, c.requires.room, length_in_order 1024 old.starts.items old.places.items)

pub insert_open-requires-clause-room : goal.insert_open-requires-clause-room
insert_open-requires-clause-room g c =
    let old = c.args.self.now in
    let one = c.close_run.ensures in
    let two = c.shift_on-last.ensures in
    let three = c.pass_on-last.ensures in
    omega (arith, c.requires.room, length_in_order 1024 old.starts.items old.places.items, one.len, one.room, two.len, two.room, three.len, three.room)

pub insert_open-requires-else-place-end-clause-within : goal.insert_open-requires-else-place-end-clause-within
insert_open-requires-else-place-end-clause-within g c =
    let old = c.args.self.now in omega (arith, c.requires.within, length_in_order 1024 old.starts.items old.places.items, c.close_run.ensures.len)

pub insert_open-requires-else-place-end-clause-room : goal.insert_open-requires-else-place-end-clause-room
insert_open-requires-else-place-end-clause-room g c =
    let old = c.args.self.now in
    omega (arith, c.requires.room, length_in_order 1024 old.starts.items old.places.items, c.close_run.ensures.len, c.close_run.ensures.room)

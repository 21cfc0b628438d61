use Rattle.std.proofs.Common.{◌≡◌, arith}
use Rattle.yschema_cut.proofs.TellingLemmas.{one_told, room_left}
use Rattle.yschema_cut.proofs.totals.totals_of.Goals as goal

pub set_total-requires-clause-room : goal.set_total-requires-clause-room
set_total-requires-clause-room g c =
    room_left c.args.fates.now c.args.slots.now c.loop-number.totals.items c.loop-number.number c.loop-number-test.true c.requires.few c.loop-number.invariant.so_far

pub loop-number-preserved : goal.loop-number-preserved
loop-number-preserved g c =
    let told = one_told c.args.fates.now c.args.slots.now c.loop-number.totals.items c.set_total.new.totals.items c.loop-number.number c.index-slots-number.result
    c.fate_at.result.holds c.fate_at.result.is_implied c.loop-number-test.true c.loop-number.invariant.within c.loop-number.invariant.count
    c.fate_at.ensures.holds c.fate_at.ensures.is_implied c.loop-number.invariant.so_far c.set_total.ensures in
    let within = c.loop-number.invariant.within in
    record { within = omega (arith, within); count = told.0; so_far = told.1 }

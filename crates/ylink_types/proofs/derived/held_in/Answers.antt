use Rattle.std.proofs.Common.{pos}
use Rattle.std.specs.BTreeSet.{contains}
use Rattle.std.specs.Ordering.{int_cmp}
use Rattle.ylink_types.proofs.NumberLemmas.{next_held}
use Rattle.ylink_types.proofs.derived.held_in.Goals as goal

pub loop-number-preserved : goal.loop-number-preserved
loop-number-preserved c =
    next_held (λ n. contains int_cmp c.args.set.now (pos n)) c.args.numbers.now c.loop-number.number-index 0
    c.loop-number.held.items c.push_number.new.numbers.items _ c.holds.result c.loop-number-test.true c.holds.ensures
    c.in_ok-push_number.ensures c.loop-number.invariant

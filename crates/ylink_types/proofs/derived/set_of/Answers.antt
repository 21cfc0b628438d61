use Rattle.ylink_types.proofs.NumberLemmas.{number_put}
use Rattle.ylink_types.proofs.derived.set_of.Goals as goal

pub loop-number-preserved : goal.loop-number-preserved
loop-number-preserved c ascend =
    number_put c.args.numbers.now c.loop-number.number-index 0 c.loop-number-test.true
    c.loop-number.set.keys c.insert_number.new.set.keys ascend c.in_ok-insert_number.ensures (c.loop-number.invariant ascend)

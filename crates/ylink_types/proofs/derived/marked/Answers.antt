use Rattle.std.proofs.Common.{false, get_or}
use Rattle.ylink_types.proofs.NumberLemmas.{number_more}
use Rattle.ylink_types.proofs.derived.marked.Goals as goal

pub loop-number-preserved : goal.loop-number-preserved
loop-number-preserved c ascend =
    number_more (λ n. get_or c.args.marks.now n false) c.args.numbers.now c.loop-number.number-index 0 c.loop-number-test.true
    c.loop-number.set.keys c.add_number.new.set.keys c.is_marked.result ascend c.is_marked.ensures c.in_ok-add_number.ensures
    (c.loop-number.invariant ascend)

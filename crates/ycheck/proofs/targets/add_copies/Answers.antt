use Rattle.std.proofs.Common.{◌+◌, arith, drop}
use Rattle.ycheck.specs.Targets.{one_value, some_values}
use Rattle.ycheck.proofs.TargetLemmas.{still_more, still_none_left, values_next, values_none}
use Rattle.ycheck.proofs.targets.add_copies.Goals as goal

pub loop-value-preserved : goal.loop-value-preserved
loop-value-preserved c =
    let id = c.args.id.0 in
    let values = c.args.values.now in
    still_more c.args.targets.now c.loop-value.targets c.add_copy.new.targets (some_values id values) (some_values id (drop c.loop-value.value-index values))
    (one_value id c.value-item.result) (some_values id (drop (c.loop-value.value-index + 1) values)) c.loop-value.invariant c.in_ok-add_copy.ensures
    (values_next id values c.loop-value.value-index c.value-item.result (omega arith) c.value-item.is)

pub returns : goal.returns
returns c =
    let id = c.args.id.0 in
    let values = c.args.values.now in
    still_none_left c.args.targets.now c.loop-value.targets (some_values id values) (some_values id (drop c.loop-value.value-index values)) c.loop-value.invariant
    (values_none id values c.loop-value.value-index (omega arith))

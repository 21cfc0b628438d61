use Rattle.std.proofs.Common.{arith}
use Rattle.ylink_features.proofs.AskedLemmas.{next_named, none_named, named_ended}
use Rattle.ylink_features.proofs.asked.all_named.Goals as goal

pub loop-name-preserved : goal.loop-name-preserved
loop-name-preserved c language modules prefixes features =
    next_named language modules c.args.home c.args.names.now c.loop-name.name-index _ c.loop-name.numbers.items c.push.new.self.items c.in-Some.number _ (omega arith)
    (c.in-Some.ensures language modules prefixes features) c.in_ok-push-in-Some.ensures.items (c.loop-name.invariant language modules prefixes features)

pub returns-in-None : goal.returns-in-None
returns-in-None c language modules prefixes features =
    none_named language modules c.args.home c.args.names.now c.loop-name.name-index _ c.loop-name.numbers.items _ (omega arith)
    (c.in-None.ensures language modules prefixes features) (c.loop-name.invariant language modules prefixes features)

pub returns : goal.returns
returns c language modules prefixes features =
    named_ended language modules c.args.home c.args.names.now c.loop-name.name-index c.loop-name.numbers.items _ (omega arith) (c.loop-name.invariant language modules prefixes features)

use Rattle.std.proofs.Common.{◌≡◌, pos, map, take}
use Rattle.ylink_types.specs.DerivedView.{Ascend}
use Rattle.ylink_types.proofs.derived.set_of.Given as goal

abbrev pub invariant-loop-number : goal.invariant-loop-number
invariant-loop-number l = Ascend 0 l.numbers → l.set.keys ≡ map pos (take l.number-index l.numbers)

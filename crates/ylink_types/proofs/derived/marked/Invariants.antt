use Rattle.std.proofs.Common.{◌≡◌, pos, false, map, filter, take, get_or}
use Rattle.ylink_types.specs.DerivedView.{Ascend}
use Rattle.ylink_types.proofs.derived.marked.Given as goal

abbrev pub invariant-loop-number : goal.invariant-loop-number
invariant-loop-number l = Ascend 0 l.numbers → l.set.keys ≡ map pos (filter (λ n. get_or l.marks n false) (take l.number-index l.numbers))

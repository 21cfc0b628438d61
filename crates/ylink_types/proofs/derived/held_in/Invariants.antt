use Rattle.std.proofs.Common.{◌≡◌, ◌++◌, pos, drop, filter}
use Rattle.std.specs.BTreeSet.{contains}
use Rattle.std.specs.Ordering.{int_cmp}
use Rattle.ylink_types.proofs.derived.held_in.Given as goal

abbrev pub invariant-loop-number : goal.invariant-loop-number
invariant-loop-number l = l.held.items ++ filter (λ n. contains int_cmp l.set (pos n)) (drop l.number-index l.numbers)
    ≡ filter (λ n. contains int_cmp l.set (pos n)) l.numbers

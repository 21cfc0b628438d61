use Rattle.std.proofs.Common.{◌≡◌, ℕ, length}
use Rattle.yschema_expand.specs.Counting.{count_at}
use Rattle.yschema_expand.proofs.groupings.zeros.Given as goal

abbrev pub invariant-loop-number : goal.invariant-loop-number
invariant-loop-number l = record {
  count : length l.counts.items ≡ l.number;
  zero : (e : ℕ) → count_at l.counts.items e ≡ 0;
}

use Rattle.std.proofs.Common.{◌≡◌, ℕ, None, length}
use Rattle.yschema_expand.specs.Counting.{refine_at}
use Rattle.yschema_expand.proofs.groupings.none_told.Given as goal

abbrev pub invariant-loop-number : goal.invariant-loop-number
invariant-loop-number l = record {
  count : length l.refines.items ≡ l.number;
  none : (e : ℕ) → refine_at l.refines.items e ≡ None;
}

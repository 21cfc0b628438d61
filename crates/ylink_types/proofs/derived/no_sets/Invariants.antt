use Rattle.std.proofs.Common.{◌≡◌, ℕ, None}
use Rattle.ylink_types.specs.DerivedView.{set_at}
use Rattle.ylink_types.proofs.derived.no_sets.Given as goal

abbrev pub invariant-loop-number : goal.invariant-loop-number
invariant-loop-number l = (n : ℕ) → set_at l.sets.items n ≡ None

use Rattle.std.proofs.Common.{◌≡◌, ℕ, ◌<◌}
use Rattle.yschema_augment.specs.Settling.{Among}
use Rattle.yschema_augment.specs.declared.waiting.Waiter.{Waiter}
use Rattle.yschema_augment.proofs.targets.all_waiters.Given as goal

abbrev pub invariant-loop-augment : goal.invariant-loop-augment
invariant-loop-augment l = record {
  all : (j : ℕ) → j < l.augment → Among (record { augment = j; found = 0 }) l.waiters.items;
  none : (w : Waiter) → Among w l.waiters.items → (w.augment < l.augment) × (w.found ≡ 0);
}

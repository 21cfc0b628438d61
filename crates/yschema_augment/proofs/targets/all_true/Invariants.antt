use Rattle.std.proofs.Common.{◌≡◌, replicate, true}
use Rattle.yschema_augment.proofs.targets.all_true.Given as goal

abbrev pub invariant-loop : goal.invariant-loop
invariant-loop l = l.waits.items ≡ replicate l.counter true

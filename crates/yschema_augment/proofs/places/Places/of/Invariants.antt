use Rattle.std.proofs.Common.{◌≤◌, length}
use Rattle.yschema_augment.specs.Placing.{FindsFrom}
use Rattle.yschema_augment.proofs.places.Places.of.Given as goal

abbrev pub invariant-loop-place : goal.invariant-loop-place
invariant-loop-place l = record {
  within : l.place ≤ length l.order;
  known : FindsFrom l.places.first.items l.places.next.items l.order l.place;
}

abbrev pub decreases-loop-place : goal.decreases-loop-place
decreases-loop-place l = l.place

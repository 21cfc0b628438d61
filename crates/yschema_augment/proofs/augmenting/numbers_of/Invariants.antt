use Rattle.std.proofs.Common.{◌≡◌, ◌++◌, drop}
use Rattle.yschema_expand.specs.AugmentView.{augments_seen}
use Rattle.yschema_augment.specs.Turning.{numbers_of}
use Rattle.yschema_augment.proofs.augmenting.numbers_of.Given as goal

-- those so far, with those that are left
abbrev pub invariant-loop-augment : goal.invariant-loop-augment
invariant-loop-augment l =
    l.numbers.items ++ numbers_of (augments_seen (drop l.augment-index l.augments)) ≡ numbers_of (augments_seen l.augments)

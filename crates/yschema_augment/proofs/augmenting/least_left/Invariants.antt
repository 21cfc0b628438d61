use Rattle.std.proofs.Common.{◌≡◌, drop}
use Rattle.yspec.specs.schema.Breaks.{least_from}
use Rattle.ylink_grammar.specs.BreakView.{seen}
use Rattle.yschema_expand.specs.AugmentView.{augments_seen}
use Rattle.yschema_augment.specs.Augmenting.{breaks_of}
use Rattle.yschema_augment.specs.Picking.{left_of}
use Rattle.yschema_augment.proofs.augmenting.least_left.Given as goal

-- what is told so far, with what is left
abbrev pub invariant-loop-place : goal.invariant-loop-place
invariant-loop-place l =
    least_from (seen l.told) (breaks_of (left_of (drop l.place l.waits) (augments_seen (drop l.place l.augments))))
    ≡ least_from (seen l.fn.so_far) (breaks_of (left_of l.waits (augments_seen l.augments)))

use Rattle.std.proofs.Common.{◌≡◌, ◌++◌, drop}
use Rattle.ycheck.specs.Repeated.{values_of}
use Rattle.ycheck.proofs.repeated.repeated_items.Given as goal

-- the values so far with those of the items that are left
abbrev pub invariant-loop-item : goal.invariant-loop-item
invariant-loop-item l = l.values.items ++ values_of l.value_type (drop l.item-index l.items) ≡ values_of l.value_type l.items

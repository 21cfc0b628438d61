use Rattle.std.proofs.Common.{◌≡◌, ◌+◌, ◌++◌, length}
use Rattle.ybase_preorder.specs.Layout.{laid}
use Rattle.yschema_cut.specs.Keeping.{kept_from}
use Rattle.yschema_cut.proofs.keeping.kept.Given as goal

-- those so far are kept, and the others are to be
abbrev pub invariant-loop-slot : goal.invariant-loop-slot
invariant-loop-slot g l = record {
  so_far : laid l.made.items ++ kept_from l.totals l.number l.skipped (laid l.slot-iterator.rest.items) ≡ kept_from l.totals 0 0 (laid l.fn.slots.items);
  count : l.number + length l.slot-iterator.rest.items ≡ length l.fn.slots.items;
}

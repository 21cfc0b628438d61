use Rattle.std.proofs.Common.{◌≡◌, ◌+◌, ◌≤◌, drop, length}
use Rattle.ybase_preorder.specs.Layout.{laid}
use Rattle.yschema_cut.specs.Totals.{totals_by}
use Rattle.yschema_cut.proofs.totals.totals_of.Given as goal

-- from each number on that is told
abbrev pub invariant-loop-number : goal.invariant-loop-number
invariant-loop-number g l = record {
  within : l.number ≤ length l.slots;
  count : length l.totals.items ≡ length l.slots + 1;
  so_far : drop l.number l.totals.items ≡ totals_by (drop l.number l.fates) (laid (drop l.number l.slots));
}

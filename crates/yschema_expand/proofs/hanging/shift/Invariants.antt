use Rattle.std.proofs.Common.{◌≡◌, length}
use Rattle.yschema_expand.specs.Hanging.{moved, shifted_from}
use Rattle.yschema_expand.specs.TableView.{lying}
use Rattle.yschema_expand.proofs.hanging.shift.Given as goal

-- those that are left come to what all come to
abbrev pub invariant-loop-number : goal.invariant-loop-number
invariant-loop-number l = record {
  long : length l.slots.items ≡ length l.fn.slots.items;
  so_far : shifted_from l.number (moved l.from l.to) l.left (lying l.slots.items) ≡ shifted_from l.first (moved l.from l.to) 0 (lying l.fn.slots.items);
}

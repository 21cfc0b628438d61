use Rattle.std.proofs.Common.{◌≡◌, ◌+◌, ◌-◌, length}
use Rattle.yschema_expand.specs.Hanging.{widened}
use Rattle.yschema_expand.specs.TableView.{lying}
use Rattle.yschema_expand.proofs.hanging.widen.Given as goal

-- those that are left come to what all come to
abbrev pub invariant-loop-number : goal.invariant-loop-number
invariant-loop-number l = record {
  long : length l.slots.items ≡ length l.fn.slots.items;
  so_far : widened l.count l.number ((l.target + 1) - l.number) (lying l.slots.items)
      ≡ widened l.count l.first ((l.target + 1) - l.first) (lying l.fn.slots.items);
}

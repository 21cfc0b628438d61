use Rattle.std.proofs.Common.{◌≡◌, ◌+◌, ◌*◌, ◌≤◌, drop}
use Rattle.ystore.specs.Store.{reads, same_key}
use Rattle.ystore.specs.Views.{store_of, lent}
use Rattle.ystore_tree.specs.Hanging.{Branches}
use Rattle.ylive_marks.specs.Keys.{Agrees, Keys, slot_of, two_climbs}
use Rattle.ylive_marks.specs.Totals.{IsTree, Totals}
use Rattle.ylive_retell.specs.Assigned.{CanLeave, left}
use Rattle.ylive_retell.specs.Joins.{Follows, KeepsRows, KeepsInstances, KeepsAwaited, KeepsThere}
use Rattle.ylive_retell.proofs.joining.leave_all.Given as goal

-- those so far have left, and the others can
abbrev pub invariant-loop-at : goal.invariant-loop-at
invariant-loop-at l =
    record {
      same_reference : lent l.counted ≡ lent l.fn.counted;
      kept : KeepsRows (store_of l.fn.counted) (store_of l.counted);
      instances : KeepsInstances (store_of l.fn.counted) (store_of l.counted);
      awaited : KeepsAwaited (store_of l.fn.counted) (store_of l.counted);
      there : KeepsThere (store_of l.fn.counted) (store_of l.counted);
      follows : (held : Keys) (f : Branches) → IsTree (store_of l.fn.counted) f → Agrees (store_of l.fn.counted) held f → Totals (store_of l.fn.counted) f
          → CanLeave slot_of same_key held l.keys
          → (now : Keys) × Follows now f (store_of l.fn.counted) (store_of l.counted) × CanLeave slot_of same_key now (drop l.at l.keys)
          × (left slot_of (drop l.at l.keys) now ≡ left slot_of l.keys held)
          × (reads (store_of l.counted) ≤ reads (store_of l.fn.counted) + l.at * two_climbs f);
    }

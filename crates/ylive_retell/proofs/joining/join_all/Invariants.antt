use Rattle.std.proofs.Common.{◌≡◌, ◌+◌, ◌*◌, ◌≤◌, drop}
use Rattle.ystore.specs.Store.{reads}
use Rattle.ystore.specs.Views.{store_of, lent}
use Rattle.ystore_tree.specs.Hanging.{Branches}
use Rattle.ylive_marks.specs.Keys.{Agrees, Keys, slot_of, two_climbs}
use Rattle.ylive_marks.specs.Totals.{IsTree, Totals}
use Rattle.ylive_retell.specs.Assigned.{CanJoin, joined}
use Rattle.ylive_retell.specs.Growing.{AreAwaited}
use Rattle.ylive_retell.specs.Joins.{Follows, CanHoldAll, KeepsRows, KeepsInstances}
use Rattle.ylive_retell.proofs.joining.join_all.Given as goal

-- those so far have joined, and the others are awaited and can
abbrev pub invariant-loop-at : goal.invariant-loop-at
invariant-loop-at l =
    record {
      same_reference : lent l.counted ≡ lent l.fn.counted;
      kept : KeepsRows (store_of l.fn.counted) (store_of l.counted);
      instances : KeepsInstances (store_of l.fn.counted) (store_of l.counted);
      awaited : AreAwaited (store_of l.counted) (drop l.at l.keys);
      follows : (held : Keys) (f : Branches) → IsTree (store_of l.fn.counted) f → Agrees (store_of l.fn.counted) held f → Totals (store_of l.fn.counted) f
          → CanJoin slot_of held l.keys → CanHoldAll (store_of l.fn.counted) f l.keys
          → (now : Keys) × Follows now f (store_of l.fn.counted) (store_of l.counted) × CanJoin slot_of now (drop l.at l.keys)
          × CanHoldAll (store_of l.counted) f (drop l.at l.keys) × (joined slot_of (drop l.at l.keys) now ≡ joined slot_of l.keys held)
          × (reads (store_of l.counted) ≤ reads (store_of l.fn.counted) + l.at * two_climbs f);
    }

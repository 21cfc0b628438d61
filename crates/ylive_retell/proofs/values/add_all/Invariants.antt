use Rattle.std.proofs.Common.{◌≡◌, ◌≤◌, ◌+◌, ◌-◌, ◌^◌}
use Rattle.ystore.specs.Store.{instances_at, reads}
use Rattle.ystore.specs.Views.{store_of, lent}
use Rattle.ystore.specs.declared.key.Key as rust
use Rattle.ystore_tree.specs.Hanging.{Branches}
use Rattle.ylive_marks.specs.Keys.{Agrees, Keys}
use Rattle.ylive_marks.specs.Totals.{IsTree, Totals}
use Rattle.ylive_retell.specs.Growing.{AreThere}
use Rattle.ylive_retell.specs.Joins.{Follows, KeepsRows, KeepsAwaited, times_valued}
use Rattle.ylive_retell.specs.Reads.{holder_count, newly_judged, values_reads}
use Rattle.ylive_retell.proofs.JudgedLemmas.{KeepsHolders}
use Rattle.ylive_retell.proofs.values.add_all.Given as goal

-- those so far are counted, and for the others there are entries
abbrev pub invariant-loop-pair : goal.invariant-loop-pair
invariant-loop-pair l =
    record {
      same_reference : lent l.counted ≡ lent l.fn.counted;
      kept : KeepsRows (store_of l.fn.counted) (store_of l.counted);
      awaited : KeepsAwaited (store_of l.fn.counted) (store_of l.counted);
      holders : KeepsHolders (store_of l.fn.counted) (store_of l.counted);
      reads : (held : Keys) (f : Branches) → IsTree (store_of l.fn.counted) f → Agrees (store_of l.fn.counted) held f → Totals (store_of l.fn.counted) f
          → AreThere (store_of l.fn.counted) l.fn.values.items
          → ((key : rust.Key) → instances_at (store_of l.fn.counted) key + times_valued key l.fn.values.items ≤ 2 ^ 64 - 1)
          → reads (store_of l.counted) + values_reads (newly_judged (instances_at (store_of l.fn.counted)) (holder_count (store_of l.fn.counted)) l.fn.values.items l.pair-iterator.rest.items) l.pair-iterator.rest.items f
          ≤ reads (store_of l.fn.counted) + values_reads (newly_judged (instances_at (store_of l.fn.counted)) (holder_count (store_of l.fn.counted)) l.fn.values.items l.fn.values.items) l.fn.values.items f;
      follows : (held : Keys) (f : Branches) → IsTree (store_of l.fn.counted) f → Agrees (store_of l.fn.counted) held f → Totals (store_of l.fn.counted) f
          → Follows held f (store_of l.fn.counted) (store_of l.counted);
      instances : AreThere (store_of l.fn.counted) l.fn.values.items
          → ((key : rust.Key) → instances_at (store_of l.fn.counted) key + times_valued key l.fn.values.items ≤ 2 ^ 64 - 1)
          → AreThere (store_of l.counted) l.pair-iterator.rest.items
          × ((key : rust.Key) → instances_at (store_of l.counted) key + times_valued key l.pair-iterator.rest.items
          ≡ instances_at (store_of l.fn.counted) key + times_valued key l.fn.values.items);
    }

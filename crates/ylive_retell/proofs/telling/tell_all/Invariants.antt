use Rattle.std.proofs.Common.{◌≡◌, ◌+◌, ◌*◌, ◌≤◌, length}
use Rattle.yspec.specs.Forest.{levels}
use Rattle.ystore.specs.Store.{reads}
use Rattle.ystore.specs.Views.{store_of, lent}
use Rattle.ystore_rows.specs.declared.row.Row as rows
use Rattle.ystore_tree.specs.Hanging.{Branches}
use Rattle.ylive_marks.specs.Totals.{IsTree, OnlyFaults, Totals, told_at}
use Rattle.ylive_retell.specs.Telling.{AreNew, told_by}
use Rattle.ylive_retell.proofs.telling.tell_all.Given as goal

-- of those so far it is told, and of the others it can be
abbrev pub invariant-loop-one : goal.invariant-loop-one
invariant-loop-one l =
    record {
      same_reference : lent l.counted ≡ lent l.fn.counted;
      kept : OnlyFaults (store_of l.fn.counted) (store_of l.counted);
      told : (row : rows.Row) → told_by l.one-iterator.rest.items row (told_at (store_of l.counted) row) ≡ told_by l.fn.news.items row (told_at (store_of l.fn.counted) row);
      reads : (f : Branches) → IsTree (store_of l.fn.counted) f → AreNew (store_of l.fn.counted) f l.fn.news.items
          → (reads (store_of l.counted) + length l.one-iterator.rest.items * (1 + 2 * levels f) ≤ reads (store_of l.fn.counted) + length l.fn.news.items * (1 + 2 * levels f))
          × AreNew (store_of l.counted) f l.one-iterator.rest.items;
      totals : (f : Branches) → IsTree (store_of l.fn.counted) f → Totals (store_of l.fn.counted) f → AreNew (store_of l.fn.counted) f l.fn.news.items
          → Totals (store_of l.counted) f × AreNew (store_of l.counted) f l.one-iterator.rest.items;
    }

use Rattle.std.proofs.Common.{◌≡◌, ◌+◌, ◌-◌, ◌++◌, ◌≤◌, take, drop}
use Rattle.ystore.specs.Store.{play_at, reads}
use Rattle.ystore.specs.Views.{store_of, lent}
use Rattle.ystore_tree.specs.Parts.{OnlyReads}
use Rattle.ylive_retell.proofs.instead.copy_told.Given as goal

abbrev pub invariant-loop-place : goal.invariant-loop-place
invariant-loop-place l =
    record {
      same_reference : lent l.counted ≡ lent l.fn.counted;
      kept : OnlyReads (store_of l.fn.counted) (store_of l.counted);
      least : l.from ≤ l.place;
      within : l.place - l.from ≤ l.until - l.from;
      reads : reads (store_of l.counted) ≤ reads (store_of l.fn.counted) + (l.place - l.from);
      copied : l.all.items ≡ l.fn.all.items ++ take (l.place - l.from) (drop l.from (play_at (store_of l.fn.counted) l.row));
    }

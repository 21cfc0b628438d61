use Rattle.std.proofs.Common.{◌≡◌, take}
use Rattle.ystore.specs.Store.{entry_at}
use Rattle.ystore.specs.Views.{store_of, lent}
use Rattle.ystore.specs.declared.key.Key.{Key}
use Rattle.ylive_retell.specs.Growing.{AreThere, Grows, awaited_at, times_valued}
use Rattle.ylive_retell.proofs.growing.await_values.Given as goal

-- there are entries for those so far
abbrev pub invariant-loop-id : goal.invariant-loop-id
invariant-loop-id l =
    record {
      same_reference : lent l.counted ≡ lent l.fn.counted;
      grows : Grows (store_of l.fn.counted) (store_of l.counted);
      awaited : (key : Key) → awaited_at (store_of l.counted) key ≡ awaited_at (store_of l.fn.counted) key;
      others : (key : Key) → times_valued key (take l.id-index l.values) ≡ 0 → entry_at (store_of l.counted) key ≡ entry_at (store_of l.fn.counted) key;
      there : AreThere (store_of l.counted) (take l.id-index l.values);
    }

use Rattle.std.proofs.Common.{◌≡◌, ◌+◌, drop, take}
use Rattle.ystore.specs.Store.{entry_at}
use Rattle.ystore.specs.Views.{store_of, lent}
use Rattle.ystore.specs.declared.key.Key.{Key}
use Rattle.ylive_retell.specs.Growing.{Grows, awaited_at, times_joined}
use Rattle.ylive_retell.proofs.growing.await_nodes.Given as goal

-- with those that are left, as many more are awaited as join
abbrev pub invariant-loop-key : goal.invariant-loop-key
invariant-loop-key l =
    record {
      same_reference : lent l.counted ≡ lent l.fn.counted;
      grows : Grows (store_of l.fn.counted) (store_of l.counted);
      awaited : (key : Key) → awaited_at (store_of l.counted) key + times_joined key (drop l.key-index l.pairs)
          ≡ awaited_at (store_of l.fn.counted) key + times_joined key l.pairs;
      others : (key : Key) → times_joined key (take l.key-index l.pairs) ≡ 0 → entry_at (store_of l.counted) key ≡ entry_at (store_of l.fn.counted) key;
    }

use Rattle.std.proofs.Common.{◌≡◌, drop}
use Rattle.ystore.specs.Store.{reads}
use Rattle.ystore.specs.Views.{store_of, lent}
use Rattle.ylive_retell.specs.Joins.{Tidies}
use Rattle.ylive_retell.proofs.TidyLemmas.{TidySoFar}
use Rattle.ylive_retell.proofs.tidying.tidy_all.Given as goal

abbrev pub invariant-loop-at : goal.invariant-loop-at
invariant-loop-at l =
    (lent l.counted ≡ lent l.fn.counted) × (reads (store_of l.counted) ≡ reads (store_of l.fn.counted)) × Tidies (store_of l.fn.counted) (store_of l.counted) × TidySoFar (store_of l.counted) (drop l.at l.keys) l.keys

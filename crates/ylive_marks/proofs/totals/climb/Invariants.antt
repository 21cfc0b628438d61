use Rattle.std.proofs.Common.{◌≡◌, ◌+◌, ◌≤◌}
use Rattle.ystore_tree.specs.Hanging.{Branches}
use Rattle.ystore_tree.specs.Ways.{Way, around, end_of}
use Rattle.ystore.specs.Store.{reads}
use Rattle.ystore.specs.Views.{store_of, lent}
use Rattle.ystore_rows.specs.declared.row.Row.TheVariants.{Top}
use Rattle.ylive_marks.specs.Totals.{IsTree, OnlyFaults, SameTold, moved}
use Rattle.ylive_marks.proofs.ClimbLemmas.{SoFar}
use Rattle.ylive_marks.proofs.totals.climb.Given as goal

abbrev pub invariant-loop-round : goal.invariant-loop-round
invariant-loop-round l =
    record {
      same_reference : lent l.counted ≡ lent l.fn.counted;
      told : SameTold (store_of l.fn.counted) (store_of l.counted);
      kept : OnlyFaults (store_of l.fn.counted) (store_of l.counted);
      reads : reads (store_of l.counted) ≤ reads (store_of l.fn.counted) + l.round;
      so_far : (way : Way) (f : Branches) → IsTree (store_of l.fn.counted) (around way f) → end_of Top way ≡ l.fn.row
          → SoFar way l.here l.round (moved l.more l.less) (store_of l.fn.counted) (store_of l.counted);
    }

use Rattle.std.proofs.Common.{◌+◌, ◌*◌, ◌≡◌, ◌≤◌, Some, take, cond}
use Rattle.yspec.specs.Forest.{levels}
use Rattle.ystore.specs.Held.{with_judged}
use Rattle.ystore.specs.Store.{holders_at, reads, total_at}
use Rattle.ystore.specs.Views.{store_of, lent}
use Rattle.ystore_rows.specs.declared.row.NodeId.{NodeId}
use Rattle.ystore_rows.specs.declared.row.Row.TheVariants.{Below}
use Rattle.ystore.specs.declared.record.Judged.TheVariants.{Right, Missing}
use Rattle.ystore_tree.specs.Hanging.{Branches, times}
use Rattle.ylive_marks.specs.Totals.{IsTree, OnlyFaults, StandsIn, Totals, judged_at}
use Rattle.ylive_marks.specs.Keys.{ChangesAt, among, is_holder}
use Rattle.ylive_marks.proofs.values.judge_holders.Given as goal

abbrev pub invariant-loop-place : goal.invariant-loop-place
invariant-loop-place l =
    record {
      same_reference : lent l.counted ≡ lent l.fn.counted;
      kept : OnlyFaults (store_of l.fn.counted) (store_of l.counted);
      told : ChangesAt (is_holder (take l.place (holders_at (store_of l.fn.counted) l.key))) (with_judged (cond l.is_found Right Missing)) (store_of l.fn.counted) (store_of l.counted);
      reads : (f : Branches) → IsTree (store_of l.fn.counted) f
          → ((x : NodeId) → 1 ≤ among x.0 (holders_at (store_of l.fn.counted) l.key) → StandsIn (Below x) f)
          → reads (store_of l.counted) ≤ reads (store_of l.fn.counted) + (1 + l.place * (1 + levels f));
      beside : (f : Branches) → IsTree (store_of l.fn.counted) f
          → ((x : NodeId) → 1 ≤ among x.0 (holders_at (store_of l.fn.counted) l.key) → StandsIn (Below x) f)
          → (x : NodeId) → times x.0 f ≡ 0 → total_at (store_of l.counted) (Below x) ≡ total_at (store_of l.fn.counted) (Below x);
      totals : (f : Branches) → IsTree (store_of l.fn.counted) f → Totals (store_of l.fn.counted) f
          → ((x : NodeId) → 1 ≤ among x.0 (holders_at (store_of l.fn.counted) l.key)
          → StandsIn (Below x) f × (among x.0 (holders_at (store_of l.fn.counted) l.key) ≤ 1)
          × (judged_at (store_of l.fn.counted) x ≡ Some (cond l.is_found Missing Right)))
          → Totals (store_of l.counted) f;
    }

use Rattle.std.proofs.Common.{◌≡◌, ◌+◌, ◌≤◌, ◌-◌, ◌++◌}
use Rattle.yspec.specs.Forest.{size}
use Rattle.yschema_model.specs.View as schema_view
use Rattle.ystore.specs.Store.{node_count, reads}
use Rattle.ystore.specs.Views.{store_of, lent}
use Rattle.ystore_rows.specs.declared.row.Row.TheVariants.{Top}
use Rattle.ystore_tree.specs.Hanging.{Branches, Hangs}
use Rattle.ystore_tree.specs.Parts.{OnlyReads}
use Rattle.ystore_tree.specs.Ways.{Way, around, end_of}
use Rattle.ylive_facts.specs.Keys.{holdings}
use Rattle.ylive_retell.specs.Reads.{way_reads}
use Rattle.ylive_retell.specs.Standing.{way_held}
use Rattle.ylive_retell.proofs.AccountLemmas.{Halfway}
use Rattle.ylive_retell.proofs.account.enter_way.Given as goal

-- what the nodes so far hold is entered
abbrev pub invariant-loop-level : goal.invariant-loop-level
invariant-loop-level l =
    record {
      same_reference : lent l.counted ≡ lent l.fn.counted;
      kept : OnlyReads (store_of l.fn.counted) (store_of l.counted);
      entered : (way : Way) (f : Branches) → Hangs (store_of l.fn.counted) Top (around way f) → end_of Top way ≡ l.fn.row
          → size (around way f) ≤ node_count (store_of l.fn.counted)
          → (h : Halfway way l.here (l.levels - l._level))
          × (holdings l.keys.items ≡ holdings l.fn.keys.items ++ way_held (schema_view.view l.schema) (end_of Top h.up) h.down f)
          × (reads (store_of l.counted) ≤ reads (store_of l.fn.counted) + way_reads (schema_view.view l.schema) h.down);
    }

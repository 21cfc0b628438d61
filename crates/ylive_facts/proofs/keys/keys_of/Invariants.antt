use Rattle.std.proofs.Common.{◌≡◌, ◌+◌, ◌-◌, ◌≤◌}
use Rattle.std.specs.Prelude.{sum_by}
use Rattle.std.specs.List.{range_with_len}
use Rattle.yspec.specs.Forest.{end, node}
use Rattle.yschema_model.specs.View.{view}
use Rattle.ystore.specs.Store.{reads}
use Rattle.ystore.specs.Views.{store_of, lent}
use Rattle.ystore_tree.specs.Hanging.{Branches, Numbered, Stands, stored_of, tree_of}
use Rattle.ystore_tree.specs.Parts.{OnlyReads}
use Rattle.ylive_facts.specs.Keys.{key_at, slots_of}
use Rattle.ylive_facts.specs.Reads.{key_reads, keys_reads}
use Rattle.ylive_facts.proofs.KeyLemmas.{SoFar}
use Rattle.ylive_facts.proofs.keys.keys_of.Given as goal

abbrev pub invariant-loop-slot : goal.invariant-loop-slot
invariant-loop-slot l = record {
  same_reference : lent l.counted ≡ lent l.fn.counted;
  kept : OnlyReads (store_of l.fn.counted) (store_of l.counted);
  reads : reads (store_of l.counted) + sum_by (key_reads (view l.schema) l.of.0) (range_with_len l.slot (slots_of (view l.schema) l.of.0 - l.slot))
      ≤ reads (store_of l.fn.counted) + (1 + keys_reads (view l.schema) l.of.0 (slots_of (view l.schema) l.of.0));
  held : (n : Numbered) (below : Branches) → n.id ≡ l.id → Stands (store_of l.fn.counted) l.above (node n below end)
      → SoFar (key_at (view l.schema) l.above (stored_of n) (tree_of below)) l.id l.fn.held.items (slots_of (view l.schema) n.schema.0) l.slot l.held.items;
}

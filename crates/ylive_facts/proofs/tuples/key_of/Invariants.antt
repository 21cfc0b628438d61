use Rattle.std.proofs.Common.{◌≡◌, ◌+◌, ◌*◌, ◌-◌, ◌≤◌, length, drop, map}
use Rattle.yspec.specs.document.Instances.{tuple_at, own_path}
use Rattle.yschema_model.specs.Layout.{numbers_of}
use Rattle.yschema_model.specs.View as schema_view
use Rattle.ystore.specs.Store.{reads}
use Rattle.ystore.specs.Views.{store_of, lent}
use Rattle.ystore_tree.specs.Hanging.{Branches, Hangs, tree_of}
use Rattle.ystore_tree.specs.Parts.{OnlyReads}
use Rattle.ycheck.proofs.ValueLemmas.{with_front}
use Rattle.ylive_facts.proofs.tuples.key_of.Given as goal

-- the values so far with those of the leafs that are left
abbrev pub invariant-loop-key : goal.invariant-loop-key
invariant-loop-key l = record {
  same_reference : lent l.counted ≡ lent l.fn.counted;
  kept : OnlyReads (store_of l.fn.counted) (store_of l.counted);
  reads : reads (store_of l.counted) + 2 * (length l.keys - l.key-index) ≤ reads (store_of l.fn.counted) + 2 * length l.keys;
  values : (f : Branches) → Hangs (store_of l.fn.counted) l.row f
      → with_front l.values.items (tuple_at (schema_view.view l.schema) (tree_of f) (map own_path (numbers_of (drop l.key-index l.keys))))
      ≡ tuple_at (schema_view.view l.schema) (tree_of f) (map own_path (numbers_of l.keys));
}

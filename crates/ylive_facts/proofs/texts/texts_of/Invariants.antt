use Rattle.std.proofs.Common.{◌≡◌, ◌+◌, ◌*◌, ◌-◌, ◌≤◌, length}
use Rattle.yschema_model.specs.View as schema_view
use Rattle.ystore.specs.Store.{reads}
use Rattle.ystore.specs.Views.{store_of, lent}
use Rattle.ystore_tree.specs.Hanging.{Branches, Hangs, tree_of}
use Rattle.ystore_tree.specs.Parts.{OnlyReads}
use Rattle.ylive_facts.proofs.TextLemmas.{SoFar}
use Rattle.ylive_facts.proofs.texts.texts_of.Given as goal

-- the texts so far with those of the leafs that are left
abbrev pub invariant-loop-leaf : goal.invariant-loop-leaf
invariant-loop-leaf l = record {
  same_reference : lent l.counted ≡ lent l.fn.counted;
  kept : OnlyReads (store_of l.fn.counted) (store_of l.counted);
  reads : reads (store_of l.counted) + 2 * (length l.leafs - l.leaf-index) ≤ reads (store_of l.fn.counted) + 2 * length l.leafs;
  texts : (f : Branches) → Hangs (store_of l.fn.counted) l.row f
      → SoFar (schema_view.view l.schema) (tree_of f) l.leafs l.texts.items l.leaf-index;
}

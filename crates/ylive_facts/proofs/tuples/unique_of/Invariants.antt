use Rattle.std.proofs.Common.{◌≡◌, ◌+◌, ◌≤◌, drop, map}
use Rattle.yspec.specs.document.Instances.{tuple_at}
use Rattle.yschema_model.specs.Layout.{numbers_of}
use Rattle.yschema_model.specs.View as schema_view
use Rattle.ystore.specs.Store.{reads}
use Rattle.ystore.specs.Views.{store_of, lent}
use Rattle.ystore_tree.specs.Hanging.{Branches, Hangs, tree_of}
use Rattle.ystore_tree.specs.Parts.{OnlyReads}
use Rattle.ycheck.proofs.ValueLemmas.{with_front}
use Rattle.ylive_facts.specs.Reads.{path_reads}
use Rattle.ylive_facts.proofs.tuples.unique_of.Given as goal

-- the values so far with those of the leafs that are left
abbrev pub invariant-loop-path : goal.invariant-loop-path
invariant-loop-path l = record {
  same_reference : lent l.counted ≡ lent l.fn.counted;
  kept : OnlyReads (store_of l.fn.counted) (store_of l.counted);
  reads : reads (store_of l.counted) + path_reads (map (λ path. numbers_of path.items) (drop l.path-index l.paths))
      ≤ reads (store_of l.fn.counted) + path_reads (map (λ path. numbers_of path.items) l.paths);
  values : (f : Branches) → Hangs (store_of l.fn.counted) l.row f
      → with_front l.values.items (tuple_at (schema_view.view l.schema) (tree_of f) (map (λ path. numbers_of path.items) (drop l.path-index l.paths)))
      ≡ tuple_at (schema_view.view l.schema) (tree_of f) (map (λ path. numbers_of path.items) l.paths);
}

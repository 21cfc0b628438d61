-- Parts of a document that are copied from a store by counted reads.
use Rattle.std.specs.Prelude.{◌≡◌, ℕ, ◌+◌, ◌*◌, List, ◌++◌, ◌∷◌}
use Rattle.yspec.specs.Forest.{end, node, size, join}
use Rattle.yinst_tree.specs.View.{row_view}
use Rattle.yinst_tree.specs.declared.tree.Stored.{Stored}
use Rattle.ystore.specs.Store.{held_at, entry_at, reads, node_count}
use Rattle.ystore_rows.specs.declared.row.NodeId.{NodeId}
use Rattle.ystore_rows.specs.declared.row.Row.{Row}
use Rattle.ystore.specs.declared.key.Key.{Key}
use Rattle.ystore.specs.declared.nodes.Nodes.{Nodes}
use Rattle.ystore_tree.specs.Hanging.{Numbered, Branches, tree_of}
use Rattle.ystore_tree.specs.Copies.{ids_of}

-- all stays but the count of reads
pub record OnlyReads (before after : Nodes) : Type 0 where
  pub held : (above : Row) → held_at after above ≡ held_at before above
  pub entries : (key : Key) → entry_at after key ≡ entry_at before key
  pub node_count : node_count after ≡ node_count before

-- a branch is put behind a row, its numbers behind others; each node is read four times, but for some reads
pub record CopiesBut (saved : ℕ) (n : Numbered) (below : Branches) (before after : Nodes) (first all : List Stored) (had has : List NodeId) : Type 0 where
  pub copied : row_view all ≡ join (row_view first) (tree_of (node n below end))
  pub numbers : has ≡ had ++ n.id ∷ ids_of below
  pub reads : reads after + saved ≡ reads before + 4 * size (node n below end)

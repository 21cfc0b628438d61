-- The store of an empty document.
use Rattle.std.specs.Prelude.{◌≡◌, Some, None}
use Rattle.ystore.specs.Held.{nothing_held}
use Rattle.ystore.specs.Store.{held_at, entry_at, node_count}
use Rattle.ystore_rows.specs.declared.row.NodeId.{NodeId}
use Rattle.ystore_rows.specs.declared.row.Row.TheVariants.{Top, Below}
use Rattle.ystore.specs.declared.key.Key.{Key}
use Rattle.ystore.specs.declared.nodes.Nodes.{Nodes}

-- nothing is held, nothing is told, and the index has no entries
pub record IsEmpty (nodes : Nodes) : Type 0 where
  pub top : held_at nodes Top ≡ Some nothing_held
  pub none_below : (id : NodeId) → held_at nodes (Below id) ≡ None
  pub index : (key : Key) → entry_at nodes key ≡ None
  pub count : node_count nodes ≡ 0

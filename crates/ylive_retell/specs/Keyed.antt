-- Which keys the nodes of a document hold.
use Rattle.std.specs.Prelude.{◌≡◌, ℕ}
use Rattle.yspec.specs.schema.Schema.{Schema}
use Rattle.ystore_rows.specs.declared.row.Row.{Row}
use Rattle.ystore_tree.specs.Hanging.{Numbered, Branches, stored_of, tree_of}
use Rattle.ylive_facts.specs.Keys.{Key, key_at}
use Rattle.ylive_retell.specs.Assigned.{Assignment}

-- a node holds at each slot the key that the definition gives
abbrev pub HasKeys : Schema → Assignment Key → Row → Numbered → Branches → Type 0
HasKeys schema held above n below = (slot : ℕ) → held n.id.0 slot ≡ key_at schema above (stored_of n) (tree_of below) slot

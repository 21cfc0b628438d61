-- What is put into a store beside its tree, and what is given back.
use Rattle.std.specs.Prelude.{◌≡◌, ℕ, ◌+◌, ◌^◌, ◌<◌, ◌≤◌, Bool, true, false, List, [], ◌∷◌, ◌++◌, length, replicate, Some, None, is_some, IfSome, if◌then◌else◌}
use Rattle.std.specs.Option.{option_map_or}
use Rattle.yspec.specs.Forest.{end, node, size}
use Rattle.yspec.specs.schema.Schema.{Schema, Kind, list, leaf_list, node_at}
use Rattle.yspec.specs.document.Document.{Stored, Tree}
use Rattle.ystore.specs.Held.{Held, Label, Told}
use Rattle.ystore.specs.Store.{held_at, entry_at, reads, node_count, ChangesRow}
use Rattle.ystore_rows.specs.declared.row.NodeId.{NodeId}
use Rattle.ystore_rows.specs.declared.row.Row.{Row}
use Rattle.ystore_rows.specs.declared.row.Row.TheVariants.{Below}
use Rattle.ystore.specs.declared.record.Judged.TheVariants.{Right}
use Rattle.ystore.specs.declared.key.Key.{Key}
use Rattle.ystore.specs.declared.nodes.Nodes.{Nodes}
use Rattle.ystore_tree.specs.Hanging.{Numbered, Branches, tree_of, stored_of, times, Stands, Keeps}
use Rattle.ystore_tree.specs.Copies.{laid, laid_on, ids_of}
use Rattle.ystore_rows.specs.declared.row.Row.TheVariants.{Top}

-- what is held stays so, keys have what they had, and no node goes
pub record Grows (before after : Nodes) : Type 0 where
  pub held : (above : Row) → is_some (held_at before above) ≡ true → held_at after above ≡ held_at before above
  pub entries : (key : Key) → entry_at after key ≡ entry_at before key
  pub reads : reads after ≡ reads before
  pub count : node_count before ≤ node_count after

-- ---- what is told of new nodes

-- how many flags a node has: an entry one for its key and one for each `unique`, an item that may stand but once one
abbrev pub kind_flags : Kind → Bool → ℕ
kind_flags (list tuples amount) distinct = length tuples.uniques + 1
kind_flags (leaf_list type defaults amount) distinct = if distinct then 1 else 0
kind_flags _ distinct = 0

abbrev pub flag_count : Schema → ℕ → ℕ
flag_count schema number = option_map_or (λ n. kind_flags n.kind n.distinct_items) (node_at schema number) 0

-- nothing is told, and so many flags say so
abbrev pub nothing_told : ℕ → Told
nothing_told flags = record { judged = Right; same = replicate flags false; play = [] }

-- nothing is told of a node, with the flags of its schema node
pub record IsFresh (schema : Schema) (held : Held) : Type 0 where
  pub flags : ℕ
  pub label : Label
  pub is_label : held.shape.label ≡ Some label
  pub are_flags : flags ≡ flag_count schema label.schema.0
  pub few : flags < 2 ^ 32
  pub told : held.told ≡ nothing_told flags
  pub total : held.total ≡ 0

-- nothing is told of nodes that weren't there
abbrev pub Freshens : Schema → Nodes → Nodes → Type 0
Freshens schema before after = (id : NodeId) → held_at before (Below id) ≡ None → IfSome (held_at after (Below id)) (IsFresh schema)

-- ---- branches

-- a branch stands in a row that doesn't list it; its nodes are new, each once, and their numbers are listed
pub record Inserts (above : Row) (id : NodeId) (label : Stored) (below : Tree) (before after : Nodes) (had has : List NodeId) : Type 0 where
  pub root : Numbered
  pub branches : Branches
  pub is_id : root.id ≡ id
  pub is_label : stored_of root ≡ label
  pub is_below : tree_of branches ≡ below
  pub stands : Stands after above (node root (laid branches) end)
  pub once : (number : ℕ) → times number (node root branches end) ≤ 1
  pub new : (other : NodeId) → 0 < times other.0 (node root branches end) → held_at before (Below other) ≡ None
  pub count : node_count after ≡ node_count before + size (node root branches end)
  pub numbers : has ≡ had ++ root.id ∷ ids_of branches
  pub grows : Grows before after

-- a row has room for so many children more, if there is such a row
abbrev pub has_room_for : ℕ → Nodes → Row → Type 0
has_room_for more nodes above = IfSome (held_at nodes above) (λ held. length held.shape.children + more ≤ held.room)

-- a tree that hangs on the top, with nothing beside it, has got these branches
pub record Gets (before : Branches) (tree : Tree) (nodes : Nodes) : Type 0 where
  pub branches : Branches
  pub is_tree : tree_of branches ≡ tree
  pub keeps : Keeps nodes (laid_on before branches) Top end

-- nodes are given back, one after another
abbrev pub Removes : List NodeId → Nodes → Nodes → Type 0
Removes [] before after = after ≡ before
Removes (id ∷ ids) before after = (next : Nodes) × ChangesRow (Below id) (λ _. None) before next × Removes ids next after

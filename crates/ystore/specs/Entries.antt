-- What an index holds at a key, as contracts see it.
use Rattle.std.specs.Prelude.{ℕ, ◌+◌, ◌-◌, ◌^◌, min, ltb, eqb, ◌&&◌, Bool, List, [], ◌∷◌, ◌++◌, length, if◌then◌else◌}
use Rattle.std.specs.List.{swap_remove}
pub use Rattle.ystore_rows.specs.Places.{place_of, place_near, StandsOnce}
use Rattle.ystore_rows.specs.declared.row.NodeId.{NodeId}
use Rattle.ystore.specs.declared.entry.Entry as rust

-- how many instances there are, which nodes hold the key, and for how many more there is room
pub record Entry : Type 0 where
  pub instances : ℕ
  pub nodes : List NodeId
  pub awaited : ℕ

abbrev pub entry_of : rust.Entry → Entry
entry_of e = record { instances = e.instances; nodes = e.nodes.items; awaited = e.awaited }

abbrev pub none : Entry
none = record { instances = 0; nodes = []; awaited = 0 }

abbrev pub is_idle : Entry → Bool
is_idle e = eqb e.instances 0 && eqb (length e.nodes) 0 && eqb e.awaited 0

-- with room for one node more
abbrev pub with_awaited : Entry → Entry
with_awaited e = record e { awaited = e.awaited + 1 }

-- with one instance more, up to the greatest number
abbrev pub with_instance : Entry → Entry
with_instance e = record e { instances = min (e.instances + 1) (2 ^ 64 - 1) }

abbrev pub without_instance : Entry → Entry
without_instance e = record e { instances = e.instances - 1 }

-- with a node that was awaited
abbrev pub with_node : NodeId → Entry → Entry
with_node node e = record e { nodes = e.nodes ++ node ∷ []; awaited = e.awaited - 1 }

-- without a node, in whose place the last comes
abbrev pub without : NodeId → List NodeId → List NodeId
without node nodes = if ltb (place_of node nodes) (length nodes) then swap_remove nodes (place_of node nodes) node else nodes

abbrev pub without_node : NodeId → Entry → Entry
without_node node e = record e { nodes = without node e.nodes }

-- What hangs on the rows of a store, as forests of stored nodes that know their numbers in it.
use Rattle.std.specs.Prelude.{◌≡◌, ℕ, ◌+◌, ◌≤◌, ◌==◌, List, map, Option, Some, option_map, if◌then◌else◌}
use Rattle.yspec.specs.Forest.{Forest, end, node, size, row, relabelled, weigh}
use Rattle.yspec.specs.types.Types.{Raw}
use Rattle.yspec.specs.document.Document.{Stored, Tree}
use Rattle.yschema_model.specs.declared.node.SchemaId.{SchemaId}
use Rattle.ystore_rows.specs.Rows.{Child}
use Rattle.ystore.specs.Held.{Shape}
use Rattle.ystore.specs.Store.{held_at, children_at, node_count}
use Rattle.ystore_rows.specs.declared.row.NodeId.{NodeId}
use Rattle.ystore_rows.specs.declared.row.Row.{Row}
use Rattle.ystore_rows.specs.declared.row.Row.TheVariants.{Top, Below}
use Rattle.ystore.specs.declared.nodes.Nodes.{Nodes}

-- a stored node with its number in a store
pub record Numbered : Type 0 where
  pub id : NodeId
  pub schema : SchemaId
  pub value : Option Raw

abbrev pub Branches : Type 0
Branches = Forest Numbered

-- the node as documents know it, and the row of such nodes
abbrev pub stored_of : Numbered → Stored
stored_of n = record { schema_number = n.schema.0; value = n.value }

abbrev pub tree_of : Branches → Tree
tree_of f = relabelled stored_of f

-- the nodes of a row as a store lists them
abbrev pub child_of : Numbered → Child
child_of n = (n.schema, n.id)

abbrev pub children_of : Branches → List Child
children_of f = map child_of (row f)

-- ---- hanging

-- where a row stands and what stands in it, as a store holds it
abbrev pub shape_at : Nodes → Row → Option Shape
shape_at nodes above = option_map (λ held. held.shape) (held_at nodes above)

-- the shape of a node in a row, with this row below it
abbrev pub shape_of : Row → Numbered → Branches → Shape
shape_of above n below = record {
  label = Some (record { schema = n.schema; value = n.value; parent = above });
  children = children_of below;
}

-- a store holds each node of a forest as one of its row, and lists the row below it
abbrev pub Stands : Nodes → Row → Branches → Type 0
Stands nodes above end = Unit {0}
Stands nodes above (node n below after) = (shape_at nodes (Below n.id) ≡ Some (shape_of above n below))
    × Stands nodes (Below n.id) below × Stands nodes above after

-- what hangs on a row, down to its end, is a forest
pub record Hangs (nodes : Nodes) (above : Row) (f : Branches) : Type 0 where
  pub listed : children_at nodes above ≡ children_of f
  pub stands : Stands nodes above f

-- ---- the tree of a store

-- how often a number stands in a forest
abbrev pub is_number : ℕ → Numbered → ℕ
is_number number n = if n.id.0 == number then 1 else 0

abbrev pub times : ℕ → Branches → ℕ
times number f = weigh (is_number number) f

-- a tree hangs on the top, and beside it a store holds branches of a row that nothing lists; no node stands twice, and
-- there are no others
pub record Keeps (nodes : Nodes) (tree : Branches) (above : Row) (loose : Branches) : Type 0 where
  pub hangs : Hangs nodes Top tree
  pub stands : Stands nodes above loose
  pub once : (number : ℕ) → times number tree + times number loose ≤ 1
  pub all : node_count nodes ≡ size tree + size loose

-- a store holds a document, and nothing else
pub record Holds (nodes : Nodes) (tree : Tree) : Type 0 where
  pub branches : Branches
  pub is_tree : tree_of branches ≡ tree
  pub keeps : Keeps nodes branches Top end

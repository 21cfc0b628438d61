-- Rows of a store, also those in containers that are implied, and what stands in them.
use Rattle.std.specs.Prelude.{◌≡◌, ℕ, List, [], length, Option, Some, None, option_and_then, slice_get}
use Rattle.yspec.specs.Forest.{end}
use Rattle.yspec.specs.types.Types.{Raw}
use Rattle.yspec.specs.document.Document.{Stored, Tree}
use Rattle.yschema_model.specs.declared.node.SchemaId.{SchemaId}
use Rattle.ystore_rows.specs.Rows.{Child, of_schema}
use Rattle.ystore.specs.Store.{children_at, label_at}
use Rattle.ystore_rows.specs.declared.row.NodeId.{NodeId}
use Rattle.ystore_rows.specs.declared.row.Row.{Row}
use Rattle.ystore.specs.declared.nodes.Nodes.{Nodes}
use Rattle.ystore_tree.specs.Hanging.{Branches, Hangs, tree_of}

-- what hangs on a row; nothing on one that is implied
abbrev pub HangsIn : Nodes → Option Row → Branches → Type 0
HangsIn nodes None f = f ≡ end
HangsIn nodes (Some above) f = Hangs nodes above f

-- the nodes of a row
abbrev pub listed_in : Nodes → Option Row → List Child
listed_in nodes None = []
listed_in nodes (Some above) = children_at nodes above

-- the first of them that a schema node has
abbrev pub first_in : SchemaId → List Child → Option NodeId
first_in schema row = slice_get (of_schema schema row) 0

-- how many of them a schema node has, by its number
abbrev pub count_in : List Child → ℕ → ℕ
count_in row number = length (of_schema (record { 0 = number }) row)

-- a node of a schema node with a value, as documents know it
abbrev pub stored_as : SchemaId → Option Raw → Stored
stored_as id value = record { schema_number = id.0; value = value }

-- the same with the value of a node of a store
abbrev pub leaf_at : Nodes → SchemaId → NodeId → Stored
leaf_at nodes id leaf = stored_as id (option_and_then (λ l. l.value) (label_at nodes leaf))

-- a row of a store with what hangs on it, where a tree is there
abbrev pub RowIs : Nodes → Option (Option Row) → Option Tree → Type 0
RowIs nodes None tree = tree ≡ None
RowIs nodes (Some row) tree = (f : Branches) × HangsIn nodes row f × (tree ≡ Some (tree_of f))

-- Changes of a row by one branch.
use Rattle.std.specs.Prelude.{◌≡◌, ℕ, List}
use Rattle.yspec.specs.Forest.{end, node, join}
use Rattle.yspec.specs.document.Document.{instances_in}
use Rattle.yschema_model.specs.declared.node.SchemaId.{SchemaId}
use Rattle.ystore_rows.specs.Rows.{Child, added, put, without_at, brought, shifted, without_last}
use Rattle.ystore_rows.specs.declared.row.NodeId.{NodeId}
use Rattle.ystore_tree.specs.Hanging.{Numbered, Branches, tree_of}
use Rattle.ystore_tree.specs.Changes.{with_node, with_node_at}
use Rattle.ystore_tree.specs.declared.swapping.Change.{Change}
use Rattle.ystore_tree.specs.declared.swapping.Change.TheVariants.{Add, Put, Take, Move}

-- the row of a store that is changed, and changed back
abbrev pub swapped : SchemaId → Change → List Child → List Child
swapped schema (Add new) row = added (schema, new) row
swapped schema (Put old new) row = put (schema, old) new row
swapped schema (Take old place) row = without_at schema place row
swapped schema (Move id from to) row = shifted schema from to row

abbrev pub swapped_back : SchemaId → Change → List Child → List Child
swapped_back schema (Add new) row = without_last schema row
swapped_back schema (Put old new) row = put (schema, new) old row
swapped_back schema (Take old place) row = brought (schema, old) place row
swapped_back schema (Move id from to) row = shifted schema to from row

-- what is asked of a change that takes a node out
abbrev pub makes_room : Change → Type 0 → Type 0
makes_room (Take old place) T = T
makes_room _ T = Unit {0}

-- a node with what stands below it is added behind those of its schema node
pub record Adds (schema : SchemaId) (new : NodeId) (f loose g left : Branches) : Type 0 where
  pub label : Numbered
  pub below : Branches
  pub is_new : label.id ≡ new
  pub is_schema : label.schema ≡ schema
  pub beside : loose ≡ node label below end
  pub row : g ≡ with_node label below f
  pub none : left ≡ end

-- it is put in the place of another
pub record Puts (schema : SchemaId) (old new : NodeId) (f loose g left : Branches) : Type 0 where
  pub before : Branches
  pub from : Numbered
  pub under : Branches
  pub to : Numbered
  pub below : Branches
  pub after : Branches
  pub is_old : from.id ≡ old
  pub is_new : to.id ≡ new
  pub is_schema : from.schema ≡ schema
  pub same_schema : to.schema ≡ schema
  pub was : f ≡ join before (node from under after)
  pub beside : loose ≡ node to below end
  pub row : g ≡ join before (node to below after)
  pub goes : left ≡ node from under end

-- a node is taken out, with so many of its schema node before it
pub record Takes (schema : SchemaId) (old : NodeId) (place : ℕ) (f loose g left : Branches) : Type 0 where
  pub before : Branches
  pub from : Numbered
  pub under : Branches
  pub after : Branches
  pub is_old : from.id ≡ old
  pub is_schema : from.schema ≡ schema
  pub is_place : instances_in (tree_of before) schema.0 ≡ place
  pub was : f ≡ join before (node from under after)
  pub none : loose ≡ end
  pub row : g ≡ join before after
  pub goes : left ≡ node from under end

-- a node that has so many of its schema node before it is taken out and put in where it has others before it
pub record Moves (schema : SchemaId) (id : NodeId) (from to : ℕ) (f loose g left : Branches) : Type 0 where
  pub before : Branches
  pub label : Numbered
  pub under : Branches
  pub after : Branches
  pub is_id : label.id ≡ id
  pub is_schema : label.schema ≡ schema
  pub is_from : instances_in (tree_of before) schema.0 ≡ from
  pub was : f ≡ join before (node label under after)
  pub none : loose ≡ end
  pub row : g ≡ with_node_at to label under (join before after)
  pub none_left : left ≡ end

-- A change makes of a row, with branches beside the tree, another row, and leaves others beside it.
abbrev pub Swaps : SchemaId → Change → Branches → Branches → Branches → Branches → Type 0
Swaps schema (Add new) f loose g left = Adds schema new f loose g left
Swaps schema (Put old new) f loose g left = Puts schema old new f loose g left
Swaps schema (Take old place) f loose g left = Takes schema old place f loose g left
Swaps schema (Move id from to) f loose g left = Moves schema id from to f loose g left

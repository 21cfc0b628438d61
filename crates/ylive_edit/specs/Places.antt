-- Where a part of a document stands in the store that the document hangs in.
use Rattle.std.specs.Prelude.{◌≡◌, ℕ, ◌<◌, ◌≤◌, Bool, true, false, List, Result, Ok, Err}
use Rattle.yspec.specs.Forest.{end, join, node, size}
use Rattle.yspec.specs.schema.Schema.{Schema}
use Rattle.yspec.specs.document.Document as document
use Rattle.yspec.specs.document.Document.{Step}
use Rattle.yspec.specs.document.Sorting.{IsSorted}
use Rattle.yspec.specs.edit.Edit.{instance_index}
use Rattle.yspec.specs.edit.Editing.{Branch, EditRefusal}
use Rattle.yschema_model.specs.declared.node.SchemaId.{SchemaId}
use Rattle.yinst_tree.specs.View.{view}
use Rattle.yinst_tree.specs.declared.tree.Stored.{Stored}
use Rattle.yinst_path.specs.Applying.{refusal_view}
use Rattle.yinst_path.specs.declared.edit.EditFault.{EditFault}
use Rattle.yinst_path.specs.declared.edit.EditFault.TheVariants.{Refused, Memory}
use Rattle.ystore_rows.specs.declared.row.NodeId.{NodeId}
use Rattle.ystore_rows.specs.declared.row.Row.{Row}
use Rattle.ystore_rows.specs.declared.row.Row.TheVariants.{Top}
use Rattle.ystore.specs.declared.nodes.Nodes.{Nodes}
use Rattle.ystore.specs.Store.{node_count}
use Rattle.ystore_tree.specs.Hanging.{Branches, Hangs, Keeps, tree_of}
use Rattle.ystore_tree.specs.Swaps.{Swaps}
use Rattle.ystore_tree.specs.Ways.{Way, Goes, Found, around, end_of}
use Rattle.ystore_tree.specs.Copies.{ids_of}
use Rattle.ystore_tree.specs.declared.swapping.Swap.{Swap}
use Rattle.ylive_retell.specs.IsTold.{IsTold}

-- a part as the definition's branch
abbrev pub branch_of : Stored → Branch
branch_of part = record { label = (view part).0; below = (view part).1 }

-- A document hangs on the top of a store, perhaps with nodes beside it.
pub record Shows (nodes : Nodes) (tree : document.Tree) : Type 0 where
  pub branches : Branches
  pub is_tree : tree_of branches ≡ tree
  pub hangs : Hangs nodes Top branches
  pub within : size branches ≤ node_count nodes

-- A store holds a document and nothing else, and tells of it what is told of it.
pub record HoldsTold (schema : Schema) (nodes : Nodes) (tree : document.Tree) : Type 0 where
  pub branches : Branches
  pub is_tree : tree_of branches ≡ tree
  pub keeps : Keeps nodes branches Top end
  pub told : IsTold schema nodes branches

-- and its rows are in order
pub record HoldsSorted (schema : Schema) (nodes : Nodes) : Type 0 where
  pub tree : document.Tree
  pub holds : HoldsTold schema nodes tree
  pub sorted : IsSorted tree

-- What came of a change of a document in a store, against what the definition gives: the store holds the document that it
-- gives; or holds the one that it held, and the change is refused as it says; or memory was wanting, and that one still hangs
-- in the store.
abbrev pub Amends : {X : Type 0} → Schema → document.Tree → Result document.Tree EditRefusal → Nodes → Result X EditFault → Type 0
Amends schema tree answer after (Ok x) = (changed : document.Tree) × (answer ≡ Ok changed) × HoldsTold schema after changed
Amends schema tree answer after (Err (Refused code doc)) = (answer ≡ Err (refusal_view code doc)) × HoldsTold schema after tree
Amends schema tree answer after (Err Memory) = Shows after tree

-- Whether a part came to hang in a document, which may have so many nodes: the store holds the document with it; or the one
-- that it held, for want of room in it.
abbrev pub HangsPart : Schema → ℕ → document.Tree → document.Tree → Nodes → Bool → Type 0
HangsPart schema most tree changed after true = (size changed ≤ most) × HoldsTold schema after changed
HangsPart schema most tree changed after false = (most < size changed) × HoldsTold schema after tree

-- ---- places

-- A store holds a document in order, and steps lead in it to a row with these branches.
pub record IsAt (schema : Schema) (nodes : Nodes) (tree : document.Tree) (steps : List Step) (above : Row) (f : Branches) : Type 0 where
  pub way : Way
  pub keeps : Keeps nodes (around way f) Top end
  pub told : IsTold schema nodes (around way f)
  pub is_tree : tree_of (around way f) ≡ tree
  pub sorted : IsSorted (tree_of (around way f))
  pub goes : Goes steps way
  pub ends : end_of Top way ≡ above

-- A node of a row is the one that a step means, and these are the numbers of it and of all below it, in preorder.
pub record IsPart (step : Step) (schema : SchemaId) (id : NodeId) (numbers : List NodeId) (f : Branches) : Type 0 where
  pub found : Found schema (instance_index step) id f
  pub is_schema : schema.0 ≡ step.schema_number
  pub are_numbers : numbers ≡ ids_of (node found.frame.label found.below end)

-- steps lead to a row of the document that a store holds
pub record IsSomewhere (schema : Schema) (nodes : Nodes) (above : Row) : Type 0 where
  pub tree : document.Tree
  pub steps : List Step
  pub f : Branches
  pub at : IsAt schema nodes tree steps above f

-- and a node of that row is the one of a schema node that has an index among those of that node
pub record IsPartThere (schema : Schema) (nodes : Nodes) (above : Row) (number index : ℕ) (id : NodeId) (numbers : List NodeId) : Type 0 where
  pub tree : document.Tree
  pub steps : List Step
  pub f : Branches
  pub step : Step
  pub of : SchemaId
  pub at : IsAt schema nodes tree steps above f
  pub part : IsPart step of id numbers f
  pub is_number : of.0 ≡ number
  pub is_index : instance_index step ≡ index

-- A store holds a document in order, and beside it what a change of a row brings. These are the numbers of the nodes that go,
-- and of those that come.
pub record Swapping (swap : Swap) (nodes : Nodes) (old new : List NodeId) : Type 0 where
  pub way : Way
  pub f : Branches
  pub loose : Branches
  pub g : Branches
  pub left : Branches
  pub at : end_of Top way ≡ swap.above
  pub swaps : Swaps swap.schema swap.change f loose g left
  pub sorted : IsSorted (tree_of f)
  pub keeps : Keeps nodes (around way f) swap.above loose
  pub are_old : ids_of left ≡ old
  pub are_new : ids_of loose ≡ new

-- ---- documents put together

-- A store holds a document with such a row at the end of a way, and nothing else, and tells of it what is told of it.
pub record Carries (schema : Schema) (nodes : Nodes) (way : Way) (row : document.Tree) : Type 0 where
  pub branches : Branches
  pub is_row : tree_of branches ≡ row
  pub keeps : Keeps nodes (around way branches) Top end
  pub told : IsTold schema nodes (around way branches)

-- Steps lead to a row of the document that a store holds, and a branch stands in order behind it.
pub record IsBehind (schema : Schema) (nodes : Nodes) (above : Row) (branch : Branch) : Type 0 where
  pub tree : document.Tree
  pub steps : List Step
  pub f : Branches
  pub at : IsAt schema nodes tree steps above f
  pub sorted : IsSorted (join (tree_of f) (node branch.label branch.below end))

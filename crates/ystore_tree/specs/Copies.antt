-- What a store lists, and in which order it comes to list a document.
use Rattle.std.specs.Prelude.{ℕ, zero, suc, List, map, option_and_then}
use Rattle.yspec.specs.Forest.{end, node, preorder}
use Rattle.yspec.specs.document.Document.{Stored, Tree}
use Rattle.yinst_tree.specs.View.{row_of}
use Rattle.ystore_rows.specs.Rows.{Child}
use Rattle.ystore.specs.Store.{children_at, label_at}
use Rattle.ystore_rows.specs.declared.row.NodeId.{NodeId}
use Rattle.ystore_rows.specs.declared.row.Row.{Row}
use Rattle.ystore_rows.specs.declared.row.Row.TheVariants.{Below}
use Rattle.ystore.specs.declared.nodes.Nodes.{Nodes}
use Rattle.ystore_tree.specs.Hanging.{Branches}
use Rattle.ystore_tree.specs.Changes.{with_node}

-- a child of a row, as documents know it
abbrev pub stored_at : Nodes → Child → Stored
stored_at nodes child =
    record { schema_number = child.0.0; value = option_and_then (λ l. l.value) (label_at nodes child.1) }

-- what is listed below a row, down to so many levels
abbrev pub listed_below : ℕ → Nodes → Row → Tree
listed_below zero nodes above = end
listed_below (suc levels) nodes above =
    row_of (map (λ c. (stored_at nodes c, listed_below levels nodes (Below c.1))) (children_at nodes above))

-- the same of the children of a row
abbrev pub row_of_children : ℕ → Nodes → List Child → Tree
row_of_children levels nodes cs =
    row_of (map (λ c. (stored_at nodes c, listed_below levels nodes (Below c.1))) cs)

-- a row with these branches put in, each behind those of its schema node and of earlier ones, and so their rows; a row
-- that stands in order stays as it is
abbrev pub laid_on : Branches → Branches → Branches
laid_on row end = row
laid_on row (node n below after) = laid_on (with_node n (laid_on end below) row) after

abbrev pub laid : Branches → Branches
laid f = laid_on end f

-- the numbers of a forest's nodes, in preorder
abbrev pub ids_of : Branches → List NodeId
ids_of f = map (λ n. n.id) (preorder f)

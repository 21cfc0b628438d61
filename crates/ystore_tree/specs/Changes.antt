-- Changes of a row of nodes, as a store makes them of its lists of children.
use Rattle.std.specs.Prelude.{◌≡◌, ℕ, zero, suc, ◌+◌, min, length}
use Rattle.yspec.specs.Forest.{end, node}
use Rattle.ystore_rows.specs.Rows.{first_place, end_place, of_schema}
use Rattle.ystore.specs.Store.{node_count}
use Rattle.ystore_rows.specs.declared.row.Row.{Row}
use Rattle.ystore.specs.declared.nodes.Nodes.{Nodes}
use Rattle.ystore_tree.specs.Hanging.{Numbered, Branches, shape_at, children_of}

-- a row with a node and what stands below it at an index, or behind all
abbrev pub put_at : ℕ → Numbered → Branches → Branches → Branches
put_at zero n below f = node n below f
put_at (suc place) n below end = node n below end
put_at (suc place) n below (node m under after) = node m under (put_at place n below after)

-- behind those of its schema node
abbrev pub with_node : Numbered → Branches → Branches → Branches
with_node n below f = put_at (end_place n.schema (children_of f)) n below f

-- at a place among those of its schema node, or behind them
abbrev pub with_node_at : ℕ → Numbered → Branches → Branches → Branches
with_node_at place n below f =
    put_at (first_place n.schema (children_of f) + min place (length (of_schema n.schema (children_of f)))) n below f

-- the shapes of all rows stay, and the number of nodes
pub record SameShapes (before after : Nodes) : Type 0 where
  pub shapes : (above : Row) → shape_at after above ≡ shape_at before above
  pub all : node_count after ≡ node_count before

-- The ways to the rows of a forest, and the forest with what stands in such a row changed.
use Rattle.std.specs.Prelude.{◌≡◌, ℕ, List, [], ◌∷◌}
use Rattle.yspec.specs.Forest.{node, join}
use Rattle.yspec.specs.document.Document.{Step, instances_in}
use Rattle.yspec.specs.edit.Edit.{instance_index}
use Rattle.yschema_model.specs.declared.node.SchemaId.{SchemaId}
use Rattle.ystore_rows.specs.declared.row.NodeId.{NodeId}
use Rattle.ystore_rows.specs.declared.row.Row.{Row}
use Rattle.ystore_rows.specs.declared.row.Row.TheVariants.{Below}
use Rattle.ystore_tree.specs.Hanging.{Numbered, Branches, tree_of}

-- a step down: to a node, with what stands before and after it in its row
pub record Frame : Type 0 where
  pub before : Branches
  pub label : Numbered
  pub after : Branches

-- the steps to a row, from the top
abbrev pub Way : Type 0
Way = List Frame

-- the forest in which a row stands, at the end of a way
abbrev pub around : Way → Branches → Branches
around [] f = f
around (frame ∷ way) f = join frame.before (node frame.label (around way f) frame.after)

-- the row to which a way leads from another
abbrev pub end_of : Row → Way → Row
end_of above [] = above
end_of above (frame ∷ way) = end_of (Below frame.label.id) way

-- steps of a path go a way: each to the node of its schema node that has its index among those of that node
abbrev pub Goes : List Step → Way → Type 0
Goes [] [] = Unit {0}
Goes [] (frame ∷ way) = ⊥
Goes (step ∷ steps) [] = ⊥
Goes (step ∷ steps) (frame ∷ way) = (frame.label.schema.0 ≡ step.schema_number)
    × (instances_in (tree_of frame.before) step.schema_number ≡ instance_index step) × Goes steps way

-- the node of a schema node that has an index among those of that node, in a row
pub record Found (schema : SchemaId) (index : ℕ) (id : NodeId) (f : Branches) : Type 0 where
  pub frame : Frame
  pub below : Branches
  pub is_row : f ≡ join frame.before (node frame.label below frame.after)
  pub is_schema : frame.label.schema ≡ schema
  pub is_id : frame.label.id ≡ id
  pub is_index : instances_in (tree_of frame.before) schema.0 ≡ index

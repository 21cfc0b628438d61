-- Changes of a document: every edit changes one row of its tree by a function.
use Rattle.std.specs.Prelude.{ℕ, ◌-◌, ◌==◌, Bool, List, map, unwrap_or}
use Rattle.yspec.specs.Forest as forest
use Rattle.yspec.specs.document.Document.{Stored, Tree, Step}

abbrev pub is_of : ℕ → Stored → Bool
is_of number s = s.schema_number == number

-- the index of a step among the instances of its schema node in a row, from 0
abbrev pub instance_index : Step → ℕ
instance_index step = unwrap_or step.position 1 - 1

-- the row, with what stands below the instance of a schema node that has an index among those of that node, from 0, changed
abbrev pub change_below : ℕ → ℕ → (Tree → Tree) → Tree → Tree
change_below number place change tree = forest.change_below (is_of number) place change tree

-- the tree, with the row changed that stands below the node to which steps lead
abbrev pub edit_at : List Step → (Tree → Tree) → Tree → Tree
edit_at steps change tree = forest.edit_at (map (λ step. (is_of step.schema_number, instance_index step)) steps) change tree

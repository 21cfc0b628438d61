-- The leaf to which a path leads.
use Rattle.std.proofs.Common.{◌≡◌, ℕ, [], ◌∷◌, Option, None, refl}
use Rattle.yspec.specs.types.Types.{Raw}
use Rattle.yspec.specs.schema.Schema.{LeafPath}
use Rattle.yspec.specs.document.Document.{Tree, step_to}
use Rattle.ysay_place.specs.KeyedPath.{leaf_in}
use Rattle.ysay_place.specs.Places.{row_to}
use Rattle.ysay_value.specs.TupleWords.{leaf_at}

-- the leaf at the end of a path, or another where the path is empty
abbrev pub or_leaf_at : Option Raw → Tree → LeafPath → Option Raw
or_leaf_at leaf row [] = leaf
or_leaf_at leaf row (number ∷ path) = leaf_at row (number ∷ path)

pub no_leaf : (row : Tree) (path : LeafPath) → or_leaf_at None row path ≡ leaf_at row path
no_leaf row [] = refl
no_leaf row (number ∷ path) = refl

pub next_leaf : (row : Tree) (number : ℕ) (path : LeafPath)
    → or_leaf_at (leaf_in row number) (row_to row (step_to number)) path ≡ leaf_at row (number ∷ path)
next_leaf row number [] = refl
next_leaf row number (next ∷ path) = refl

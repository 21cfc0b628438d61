-- Sums over the nodes of a document, where what a node weighs depends on it and on the labels of the row below it.
use Rattle.std.specs.Prelude.{ℕ, [], ◌∷◌}
use Rattle.yspec.specs.types.Types.{Val}
use Rattle.yspec.specs.schema.Schema.{Schema}
use Rattle.yspec.specs.document.Document.{Stored, Tree}
use Rattle.yspec.specs.document.Instances.{times_at, times_below}
use Rattle.ystore_tree.specs.Hanging.{stored_of}
use Rattle.ystore_tree.specs.Ways.{Way}

-- what the node above a row weighs, by the row, at the end of a way from another
abbrev pub top_at : (Stored → Tree → ℕ) → (Tree → ℕ) → Way → Tree → ℕ
top_at weight top [] = top
top_at weight top (frame ∷ way) = top_at weight (weight (stored_of frame.label)) way

-- how many instances of a schema node have a value, of the node above the row at the end of a way and of what is in use in
-- that row
abbrev pub times_there : Schema → ℕ → Val → Way → Tree → ℕ
times_there schema number v way = top_at (times_at schema number v) (times_below schema number v schema.nodes) way

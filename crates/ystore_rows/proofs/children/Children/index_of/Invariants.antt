use Rattle.std.proofs.Common.{◌≡◌, ℕ, ◌<◌, Some, slice_get}
use Rattle.ystore_rows.specs.Children.{nodes_of}
use Rattle.ystore_rows.specs.Rows.{of_schema}
use Rattle.ystore_rows.proofs.children.Children.index_of.Given as goal

-- the node is at none of the places so far
abbrev pub invariant-loop-place : goal.invariant-loop-place
invariant-loop-place l = (k : ℕ) → k < l.place → slice_get (of_schema l.fn.schema (nodes_of l.self)) k ≡ Some l.node → ⊥

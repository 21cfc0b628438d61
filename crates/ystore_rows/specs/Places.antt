-- Where a node stands among nodes.
use Rattle.std.specs.Prelude.{◌≡◌, ℕ, ◌+◌, ◌-◌, min, ltb, leb, eqb, ◌&&◌, ◌||◌, List, length, drop, take, reverse, Some, slice_get, if◌then◌else◌}
use Rattle.std.specs.List.{position_or_len}
use Rattle.ystore_rows.specs.declared.row.NodeId.{NodeId}

-- the place of a node, or the end
abbrev pub place_of : NodeId → List NodeId → ℕ
place_of node nodes = position_or_len (λ n. eqb n.0 node.0) nodes

-- a node stands at one place at most
abbrev pub StandsOnce : NodeId → List NodeId → Type 0
StandsOnce node nodes = (j k : ℕ) → slice_get nodes j ≡ Some node → slice_get nodes k ≡ Some node → j ≡ k

-- the place of a node that is so far ahead of a place of a row, from it on, and so far behind it, from before it back: the nearer one
abbrev pub nearer : ℕ → ℕ → ℕ → ℕ → ℕ
nearer at long ahead behind = if ltb behind at && (ltb behind ahead || leb long (at + ahead)) then at - 1 - behind else at + ahead

-- the place of a node that is next to a place, or the end
abbrev pub place_near : ℕ → NodeId → List NodeId → ℕ
place_near near node nodes =
    let at = min near (length nodes) in
    nearer at (length nodes) (place_of node (drop at nodes)) (place_of node (reverse (take at nodes)))

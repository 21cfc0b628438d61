-- The code's edges as edges of a graph, and the rows made of them.
use Rattle.std.specs.Prelude.{ℕ, ◌≡◌, ◌<◌, true, List, length, map}
use Rattle.std.specs.List.{All}
use Rattle.yspec.specs.linking.Graph as spec
use Rattle.ybase_graph.specs.Reaching.{has_edge}
use Rattle.ybase_graph.specs.Search.{Rows, HasTarget}
use Rattle.ybase_graph.specs.declared.circles.Edge.{Edge}

abbrev pub edge_view : Edge → spec.Edge
edge_view e = record { source = e.source; target = e.target }

abbrev pub IsEdgeWithin : ℕ → Edge → Type 0
IsEdgeWithin n e = (e.source < n) × (e.target < n)

abbrev pub AreWithin : ℕ → List Edge → Type 0
AreWithin n edges = All (IsEdgeWithin n) edges

pub record HaveTargets (n : ℕ) (edges : List Edge) (rows : Rows) : Type 0 where
  pub count : length rows ≡ n
  pub edge : (a b : ℕ) → HasTarget rows a b → has_edge (map edge_view edges) a b ≡ true
  pub target : (a b : ℕ) → has_edge (map edge_view edges) a b ≡ true → HasTarget rows a b

pub record HaveNoTargets (n : ℕ) (rows : Rows) : Type 0 where
  pub count : length rows ≡ n
  pub none : (a b : ℕ) → HasTarget rows a b → ⊥

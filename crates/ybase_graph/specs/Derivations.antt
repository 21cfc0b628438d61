-- What is kept of a graph to tell which nodes derive from one of them.
use Rattle.std.specs.Prelude.{ℕ, ◌≡◌, true, false, List, length}
use Rattle.std.specs.List.{range_with_len}
use Rattle.std.specs.List.Sorted.{IsPermutation}
use Rattle.yspec.specs.linking.Graph.{Edge, is_on_circle}
use Rattle.ybase_graph.specs.Reaching.{has_edge, HasEdge, StandsBefore}
use Rattle.ybase_graph.specs.Search.{HasTarget, TargetsWithin}
use Rattle.ybase_graph.specs.declared.derivations.Derivations.{Derivations}

-- no edge lies on a circle
abbrev pub AreStraight : List Edge → Type 0
AreStraight edges = (a b : ℕ) → HasEdge edges a b → is_on_circle edges (record { source = a; target = b }) ≡ false

-- the rows are those of some edges, and all their nodes stand in the order, each behind those to which it leads
pub record IsOf (d : Derivations) (edges : List Edge) : Type 0 where
  pub edge : (a b : ℕ) → HasTarget d.rows.items a b → has_edge edges a b ≡ true
  pub target : (a b : ℕ) → has_edge edges a b ≡ true → HasTarget d.rows.items a b
  pub within : TargetsWithin d.rows.items
  pub all : IsPermutation (range_with_len 0 (length d.rows.items)) d.order.items
  pub behind : (a b : ℕ) → HasEdge edges a b → is_on_circle edges (record { source = a; target = b }) ≡ false
      → StandsBefore d.order.items b a

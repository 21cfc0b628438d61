-- Definitions in an order in which each stands behind those that it uses.
use Rattle.std.specs.Prelude.{◌≡◌, ◌==◌, ℕ, ◌<◌, ◌≤◌, true, Some, List, length, get_or}
use Rattle.std.specs.List.{list_any}
use Rattle.yspec.specs.Forest.{Forest, size}
use Rattle.yspec.specs.linking.Circles.{definition_edges}
use Rattle.yspec.specs.linking.DerivedTypes.{number_named}
use Rattle.yspec.specs.linking.Source.{Source}
use Rattle.ybase_graph.specs.Reaching.{HasEdge, StandsBefore}

-- a statement names the definition of a number
abbrev pub IsNamed : Forest Source → ℕ → Type 0
IsNamed modules e = (number : ℕ) × (number_named modules number ≡ Some e)

-- All that statements name are among them, and there are no more than statements.
pub record AreInOrder (nodes : List ℕ) (modules : Forest Source) : Type 0 where
  pub among : (e : ℕ) → IsNamed modules e → list_any (λ k. e == k) nodes ≡ true
  pub behind : (a b : ℕ) → HasEdge (definition_edges modules) a b → StandsBefore nodes b a
  pub within : (i : ℕ) → i < length nodes → get_or nodes i 0 < size modules
  pub count : length nodes ≤ size modules

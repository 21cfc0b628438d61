-- Graphs: which edges lie on circles, and where a node leads.
use Rattle.std.specs.Prelude.{ℕ, zero, suc, ◌==◌, ◌&&◌, ◌++◌, Bool, not, List, [], ◌∷◌, map, filter, length}
use Rattle.std.specs.List.{list_any}

-- an edge from a node to another, both by number
pub record Edge : Type 0 where
  pub source : ℕ
  pub target : ℕ

abbrev pub is_among : List ℕ → ℕ → Bool
is_among nodes n = list_any (λ m. m == n) nodes

-- whether it leads from one of some nodes to none of them
abbrev pub leads_out : List ℕ → Edge → Bool
leads_out nodes e = is_among nodes e.source && not (is_among nodes e.target)

abbrev pub target_of : Edge → ℕ
target_of e = e.target

-- the nodes to which some lead by a number of edges at most, themselves included
unfoldable pub reached : List Edge → ℕ → List ℕ → List ℕ
reached edges zero nodes = nodes
reached edges (suc steps) nodes = reached edges steps (nodes ++ map target_of (filter (leads_out nodes) edges))

-- whether an edge's target leads back to its source
abbrev pub is_on_circle : List Edge → Edge → Bool
is_on_circle edges e = is_among (reached edges (length edges) (e.target ∷ [])) e.source

-- the nodes to which a node leads by one edge or more
abbrev pub behind : List Edge → ℕ → List ℕ
behind edges n = reached edges (length edges) (map target_of (filter (λ e. e.source == n) edges))

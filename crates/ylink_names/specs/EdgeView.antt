-- Which definitions refer to which, by what is known of each statement.
use Rattle.std.specs.Prelude.{ℕ, ◌+◌, Bool, false, List, [], ◌∷◌, Option, option_map, option_and_then, unwrap_or, slice_get}
use Rattle.std.specs.List.{flat_map}
use Rattle.yspec.specs.Forest.{Forest}
use Rattle.yspec.specs.linking.Graph as spec
use Rattle.yspec.specs.linking.Scopes.{Placed, statements_of}
use Rattle.yspec.specs.linking.Source.{Source}
use Rattle.yspec.specs.schema.Breaks.{Break, broken, when}
use Rattle.ylink_names.specs.MeaningView.{meaning_at}

-- the edge from what holds a statement to what it means
abbrev pub edge_by : Option ℕ → Option ℕ → Option spec.Edge
edge_by holder meaning = option_and_then (λ d. option_map (λ a. record { source = a; target = d }) holder) meaning

-- those of statements, the first of which has a number
abbrev pub edges_from : List (Option ℕ) → ℕ → List (Option ℕ) → List (Option spec.Edge)
edges_from holders number [] = []
edges_from holders number (m ∷ ms) = edge_by (meaning_at holders number) m ∷ edges_from holders (number + 1) ms

-- what a table of flags says of a statement, by its number, and what a statement breaks by that
abbrev pub flag_at : List Bool → ℕ → Bool
flag_at circular number = unwrap_or (slice_get circular number) false

abbrev pub circle_by : Source → Bool → List Break
circle_by s circular = when circular (broken 9 s.home s.statement.line)

-- what all statements of a set break by their flags
abbrev pub circles_by : (Placed → Bool) → Forest Source → List Break
circles_by flag modules = flat_map (λ p. circle_by p.source (flag p)) (statements_of modules)

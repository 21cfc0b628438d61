-- The innermost definitions around statements.
use Rattle.std.specs.Prelude.{◌≡◌, ℕ, List, Option, find, map, option_map}
use Rattle.yspec.specs.Forest.{Forest}
use Rattle.yspec.specs.linking.Circles.{referring}
use Rattle.yspec.specs.linking.Keyword.{Keyword}
use Rattle.yspec.specs.linking.Scopes.{statements_of}
use Rattle.yspec.specs.linking.Source.{Source, is_source_of}

-- the number of the innermost of some ancestors with a keyword
abbrev pub innermost_of : Keyword → List (Source × Forest Source) → Option ℕ
innermost_of k ancestors = option_map (λ a. a.0.number) (find (λ a. is_source_of k a.0) ancestors)

-- the table holds of each statement of a set the innermost definition that holds it and is of the kind that it names
abbrev pub AreReferring : List (Option ℕ) → Forest Source → Type 0
AreReferring holders modules = holders ≡ map referring (statements_of modules)

-- What refers to itself, C9: circles of imports, typedefs and groupings (RFC 7950, 5.1, 7.3 and 7.12).
use Rattle.std.specs.Prelude.{ℕ, Bool, false, List, find, Option, None, option_map, option_and_then, if◌then◌else◌}
use Rattle.std.specs.List.{flat_map, filter_map}
use Rattle.std.specs.Option.{option_map_or}
use Rattle.yspec.specs.Forest.{Forest, preorder}
use Rattle.yspec.specs.linking.Graph.{Edge, is_on_circle}
use Rattle.yspec.specs.linking.Keyword.{Keyword}
use Rattle.yspec.specs.linking.Keyword as word
use Rattle.yspec.specs.linking.Source.{Source, is_source_of, argument_in}
use Rattle.yspec.specs.linking.Imports.{module_called}
use Rattle.yspec.specs.linking.Scopes.{Placed, statements_of, kind_named, meaning}
use Rattle.yspec.specs.schema.Breaks.{Break, broken, when}

-- whether what a statement refers to leads back to what it is a reference of
abbrev pub is_circular : List Edge → Option Edge → Bool
is_circular edges edge = option_map_or (is_on_circle edges) edge false

abbrev pub circle_break : List Edge → Option Edge → Source → List Break
circle_break edges edge s = when (is_circular edges edge) (broken 9 s.home s.statement.line)

-- ---- imports

-- a module refers to those that it imports, by their numbers
abbrev pub import_edge : Forest Source → Source → Option Edge
import_edge modules s = if is_source_of word.import_word s
    then option_map (λ m. record { source = s.home; target = m }) (module_called modules (argument_in s)) else None

abbrev pub import_edges : Forest Source → List Edge
import_edges modules = filter_map (import_edge modules) (preorder modules)

abbrev pub import_circle : Forest Source → List Edge → Source → List Break
import_circle modules edges s = circle_break edges (import_edge modules s) s

abbrev pub import_circles : Forest Source → List Break
import_circles modules = flat_map (import_circle modules (import_edges modules)) (preorder modules)

-- ---- typedefs and groupings

-- the number of the innermost ancestor with a keyword
abbrev pub innermost : Keyword → Placed → Option ℕ
innermost k p = option_map (λ a. a.0.number) (find (λ a. is_source_of k a.0) p.ancestors)

-- the innermost definition that holds a statement and is of the kind that it names
abbrev pub referring : Placed → Option ℕ
referring p = option_and_then (λ kind. innermost kind p) (kind_named p.source.keyword)

-- A typedef refers to those that the `type` statements in it name, a grouping to those that the `uses` statements in it
-- name, by the definitions' numbers.
abbrev pub definition_edge : Forest Source → Placed → Option Edge
definition_edge modules p = option_and_then (λ d. option_map (λ a. record { source = a; target = d.number }) (referring p)) (meaning modules p)

abbrev pub definition_edges : Forest Source → List Edge
definition_edges modules = filter_map (definition_edge modules) (statements_of modules)

abbrev pub definition_circle : Forest Source → List Edge → Placed → List Break
definition_circle modules edges p = circle_break edges (definition_edge modules p) p.source

abbrev pub definition_circles : Forest Source → List Break
definition_circles modules = flat_map (definition_circle modules (definition_edges modules)) (statements_of modules)

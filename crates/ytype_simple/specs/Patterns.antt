-- The expressions among restrictions (RFC 7950, 9.4.5).
use Rattle.std.specs.Prelude.{Bool, List, Option, Some, None, option_and_then, option_to_list}
use Rattle.std.specs.List.{flat_map}
use Rattle.yspec.specs.text.Text.{Text}
use Rattle.yspec.specs.types.Ranges.{Test, within, matching, Limit}
use Rattle.yspec.specs.types.Types.{Raw, SimpleType, simple_excluding}
use Rattle.ytype_simple.specs.declared.matching.Matching.{Matching}

-- an expression, and whether it is one that texts don't match
abbrev pub expression_of : Test → Option (Text × Bool)
expression_of (within parts) = None
expression_of (matching text inverted) = Some (text, inverted)

-- from the built-in type outwards
abbrev pub expressions_in : List Limit → List (Text × Bool)
expressions_in limits = flat_map (λ l. option_to_list (expression_of l.test)) limits

-- that of the first restriction which excludes what a document has
abbrev pub unmatched_by : SimpleType → Raw → Option (Text × Bool)
unmatched_by type raw = option_and_then (λ l. expression_of l.test) (simple_excluding type raw)

abbrev pub matching_view : Matching → Text × Bool
matching_view m = (m.expression.now, m.inverted)

-- What leafs and items refer to (RFC 7950, 9.9).
use Rattle.std.specs.Prelude.{ℕ, ◌+◌, ◌==◌, ◌&&◌, not, Bool, true, false, List, [], ◌∷◌, Option, option_map, option_and_then, if◌then◌else◌}
use Rattle.std.specs.List.{list_any}
use Rattle.std.specs.Option.{option_map_or}
use Rattle.yspec.specs.Forest.{weigh}
use Rattle.yspec.specs.types.Types.{Val}
use Rattle.yspec.specs.types.Order.{same_value}
use Rattle.yspec.specs.schema.Schema.{Schema, Kind, node_at, type_in}
use Rattle.yspec.specs.schema.References.{reference_in}
use Rattle.yspec.specs.document.Document.{Stored, Tree}
use Rattle.yspec.specs.document.Instances.{value_of}

-- the number of a schema node, and a value that its instances may have
abbrev pub Reference : Type 0
Reference = ℕ × Val

abbrev pub same_reference : Reference → Reference → Bool
same_reference r q = r.0 == q.0 && same_value r.1 q.1

-- what a value of a kind of node refers to
abbrev pub reference_by : Kind → Val → Option Reference
reference_by kind v = option_map (λ r. (r.target, r.value)) (option_and_then (λ type. reference_in type v) (type_in kind))

-- what a stored leaf or item refers to, by its valid value
abbrev pub reference_of : Schema → Stored → Option Reference
reference_of schema s =
    option_and_then (λ n. option_and_then (reference_by n.kind) (value_of schema s)) (node_at schema s.schema_number)

-- ---- some of them

abbrev pub refers : Schema → Reference → Stored → Bool
refers schema r s = option_map_or (same_reference r) (reference_of schema s) false

-- how many stored nodes refer to each, in all
abbrev pub referring : Schema → List Reference → Tree → ℕ
referring schema [] t = 0
referring schema (r ∷ rs) t = weigh (λ s. if refers schema r s then 1 else 0) t + referring schema rs t

-- no two are the same
abbrev pub are_distinct : List Reference → Bool
are_distinct [] = true
are_distinct (r ∷ rs) = not (list_any (same_reference r) rs) && are_distinct rs

-- What `type` statements tell of nodes: what their types mean, and to which nodes these refer.
use Rattle.std.specs.Prelude.{ℕ, List, Option, None, option_map, option_and_then, slice_get, unwrap_or}
use Rattle.yspec.specs.linking.Keyword.{type_word}
use Rattle.yspec.specs.linking.Source.{first_with}
use Rattle.yspec.specs.linking.TypeStatements.{Meant}
use Rattle.yspec.specs.linking.Planned.{Planned, Plan, target_meant}
use Rattle.yspec.specs.linking.SchemaNodes.{number_in}

-- what the `type` statement of a node means, by what that of each number does
abbrev pub meant_as : (ℕ → Option Meant) → Planned → Option Meant
meant_as means p = option_and_then (λ s. means s.number) (first_with type_word p.part.own)

-- what the type of the node of a number means, by what is held of each
abbrev pub meant_at : List (Option Meant) → ℕ → Option Meant
meant_at meants number = unwrap_or (slice_get meants number) None

-- the leaf or leaf-list to which a leafref refers, by what the types of nodes mean
abbrev pub target_as : Plan → (Planned → Option Meant) → Planned → Option Planned
target_as plan meant p = option_and_then (target_meant plan p) (meant p)

abbrev pub target_number : Plan → (Planned → Option Meant) → Planned → Option ℕ
target_number plan meant p = option_map number_in (target_as plan meant p)

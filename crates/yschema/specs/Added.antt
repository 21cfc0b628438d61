-- The nodes that augments add, by the numbers of these, and where their paths lead.
use Rattle.std.specs.Prelude.{◌≡◌, ℕ, ◌==◌, List, [], ◌∷◌, map, filter, Option, Some, option_map, option_and_then}
use Rattle.std.specs.Option.{option_map_or}
use Rattle.std.specs.Map.{lookup}
use Rattle.yspec.specs.linking.Prefixes.{NodeName}
use Rattle.yspec.specs.linking.Planned.{Plan, Planned, same_number, child_called}
use Rattle.yspec.specs.linking.SchemaNodes.{number_in}
use Rattle.yschema_model.specs.Layout.{numbers_of}
use Rattle.yschema.specs.declared.augmenting.Added as code

abbrev pub held : code.Added → ℕ → List ℕ
held added augment =
    option_map_or (λ ids. numbers_of ids.items) (lookup (λ k. k == augment) added.by_augment.entries) []

-- the numbers of those nodes that an augment adds
abbrev pub added_among : ℕ → List Planned → List ℕ
added_among augment nodes = map number_in (filter (λ p. same_number (Some augment) p.part.added_by) nodes)

-- They are those of these nodes.
abbrev pub HoldsThose : code.Added → List Planned → Type 0
HoldsThose added nodes = (augment : ℕ) → held added augment ≡ added_among augment nodes

-- the node to which names lead from one, by its number
abbrev pub leads : Plan → Option ℕ → List NodeName → Option ℕ
leads plan found [] = found
leads plan found (name ∷ names) =
    option_and_then (λ number. leads plan (Some number) names) (option_map number_in (child_called plan found name))

-- What is held of the nodes that refer to a node.
use Rattle.std.specs.Prelude.{◌≡◌, ◌++◌, ℕ, ◌==◌, Bool, false, List, [], ◌∷◌, map, filter, option_map, if◌then◌else◌}
use Rattle.std.specs.List.{filter_map, list_any}
use Rattle.std.specs.Option.{option_map_or}
use Rattle.std.specs.Map.{lookup}
use Rattle.yspec.specs.schema.References as spec
use Rattle.yspec.specs.schema.References.{refers_to}
use Rattle.yschema_model.specs.Layout.{Place, numbers_of, targets_view}
use Rattle.yschema_model.specs.declared.node.MemberTargets.{MemberTargets}
use Rattle.yschema_model.specs.declared.references.References.{References}

abbrev pub held : References → ℕ → List ℕ
held references target = option_map_or (λ ids. numbers_of ids.items) (lookup (λ id. id.0 == target) references.by_target.entries) []

-- the numbers of the places whose nodes refer to a node
abbrev pub referring : ℕ → List Place → List ℕ
referring target ps = map (λ p. p.label.number) (filter (λ p. refers_to target p.label) ps)

-- They are those of these places.
abbrev pub FindsReferences : References → List Place → Type 0
FindsReferences references ps = (target : ℕ) → held references target ≡ referring target ps

-- ---- while they are gathered, the places in order

-- the numbers of what members of unions refer to
abbrev pub targets_of : List MemberTargets → List ℕ
targets_of targets = filter_map (option_map spec.number_of) (targets_view targets)

-- whether some nodes end with one
abbrev pub ends_with : ℕ → List ℕ → Bool
ends_with id [] = false
ends_with id (n ∷ []) = n == id
ends_with id (n ∷ m ∷ ns) = ends_with id (m ∷ ns)

-- whatever they refer to, the last of some places that does isn't this one
abbrev pub StandBefore : List Place → ℕ → Type 0
StandBefore ps id = (target : ℕ) → ends_with id (referring target ps) ≡ false

-- Those of some places are held, and one more of what is among these.
abbrev pub HeldWith : References → List Place → ℕ → List ℕ → Type 0
HeldWith references ps id targets = (target : ℕ) → held references target
    ≡ referring target ps ++ (if list_any (λ t. t == target) targets then id ∷ [] else [])

-- The one is held besides of each of these.
abbrev pub HoldsMore : References → References → ℕ → List ℕ → Type 0
HoldsMore old new id targets = (ps : List Place) (done : List ℕ) → StandBefore ps id
    → HeldWith old ps id done → HeldWith new ps id (done ++ targets)

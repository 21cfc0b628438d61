-- How targets are found: children by the numbers of nodes.
use Rattle.std.specs.Prelude.{◌≡◌, ℕ, List, [], ◌∷◌, Option, Some, None, find, option_map, option_and_then, if◌then◌else◌}
use Rattle.yspec.specs.Forest.{Forest, end, node, row, first_of}
use Rattle.yspec.specs.linking.Source.{Source}
use Rattle.yspec.specs.linking.Parts.{Part}
use Rattle.yspec.specs.linking.Prefixes.{NodeName}
use Rattle.yspec.specs.linking.Planned.{same_number}
use Rattle.yschema_augment.specs.Hanging.{is_step_of}
use Rattle.yschema_expand.specs.NumberedView.{Numbered}

-- which child of a name a node has, or the top, by their numbers
abbrev pub Lookup : Type 0
Lookup = Option ℕ → NodeName → Option ℕ

-- the number of the first of a row that has a name
abbrev pub first_in : NodeName → Forest (Numbered Part) → Option ℕ
first_in name f = option_map (λ l. l.number) (find (is_step_of name) (row f))

-- the node to which steps lead from one, or from the top
abbrev pub reached : Lookup → Option ℕ → List NodeName → Option (Option ℕ)
reached look above [] = Some above
reached look above (step ∷ steps) = option_and_then (λ n. reached look (Some n) steps) (look above step)

-- the node at a path
abbrev pub target_in : Lookup → List NodeName → Option ℕ
target_in look steps = option_and_then (λ o. o) (reached look None steps)

-- the children of each node are found, and its statement is known by its number
abbrev pub Agrees : Lookup → (ℕ → Source) → Forest (Numbered Part) → Type 0
Agrees look source end = Unit {0}
Agrees look source (node l below after) = ((l.label.source ≡ source l.number)
    × ((name : NodeName) → look (Some l.number) name ≡ first_in name below))
    × Agrees look source below × Agrees look source after

-- those at the top too
abbrev pub AgreesAll : Lookup → (ℕ → Source) → Forest (Numbered Part) → Type 0
AgreesAll look source f = ((name : NodeName) → look None name ≡ first_in name f) × Agrees look source f

-- a lookup once a row has come behind the children of a node
abbrev pub looked_behind : Lookup → ℕ → Forest (Numbered Part) → Lookup
looked_behind look target added above name =
    first_of (look above name) (if same_number above (Some target) then first_in name added else None)

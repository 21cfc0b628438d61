-- Nodes that pass a test, as that they bear a `when`, and those below them, by what is told of each.
use Rattle.std.specs.Prelude.{◌≡◌, ◌||◌, ℕ, zero, suc, Bool, true, false, not, List, Some, get_or, option_and_then, slice_get}
use Rattle.std.specs.Option.{option_map_or}
use Rattle.yspec.specs.Forest.{size}
use Rattle.yspec.specs.linking.Planned.{Planned, Plan, node_of, nodes_of}
use Rattle.yspec_wide.specs.Language.{Language}
use Rattle.yspec_wide.specs.Sources.{bears_when}

-- it is told of each node of a plan, by its number, that it doesn't pass; one of which nothing is told doesn't
abbrev pub TellsOthers : List Bool → (Planned → Bool) → Plan → Type 0
TellsOthers others test plan = (number : ℕ) (p : Planned) → slice_get (nodes_of plan) number ≡ Some p
    → get_or others number true ≡ not (test p)

-- that it bears no `when`
abbrev pub TellsUnguarded : List Bool → Language → Plan → Type 0
TellsUnguarded unguarded language plan = TellsOthers unguarded (λ p. bears_when language p.part.own) plan

module _ (unguarded : List Bool) (plan : Plan) where
  -- whether one of so many nodes on the way up from a node, itself among them, passes it
  unfoldable pub is_guarded_by : ℕ → Planned → Bool
  is_guarded_by zero p = false
  is_guarded_by (suc steps) p = not (get_or unguarded p.number true)
      || option_map_or (is_guarded_by steps) (option_and_then (node_of plan) p.parent) false

  -- whether a node does, or one above it
  abbrev pub hangs_by : Planned → Bool
  hangs_by p = is_guarded_by (size plan.nodes) p

-- Nodes below others.
use Rattle.std.specs.Prelude.{ℕ, zero, suc, ◌||◌, Bool, false, option_and_then}
use Rattle.std.specs.Option.{option_map_or}
use Rattle.yspec.specs.Forest.{size}
use Rattle.yspec.specs.linking.Planned.{Planned, Plan, node_of}

module _ (plan : Plan) (test : Planned → Bool) where
  -- whether one of so many nodes on the way up from a node, itself among them, passes a test
  unfoldable pub is_under_within : ℕ → Planned → Bool
  is_under_within zero p = false
  is_under_within (suc steps) p =
      test p || option_map_or (is_under_within steps) (option_and_then (node_of plan) p.parent) false

  -- whether a node passes a test, or one above it
  abbrev pub is_under : Planned → Bool
  is_under p = is_under_within (size plan.nodes) p

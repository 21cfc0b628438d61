use Rattle.std.proofs.Common.{◌≡◌, ◌++◌, drop}
use Rattle.std.specs.Prelude.{reverse}
use Rattle.std.specs.List.{flat_map}
use Rattle.yspec_session.specs.Remembering.{turns_back}
use Rattle.ylive.specs.View.{view}
use Rattle.yapp_difference.specs.Turning.{turn_views}
use Rattle.yapp_session.specs.View.{groups_view}
use Rattle.yapp_session.proofs.turning.add_all_turns.Given as goal

abbrev pub invariant-loop-group : goal.invariant-loop-group
invariant-loop-group l = let first = view l.initial.live in let now = view l.live in
    (turn_views l.turns.items ++ reverse (turns_back first.schema now.tree (flat_map (λ g. g) (groups_view (drop l.group-index l.groups))))
    ≡ turn_views l.initial.turns.items ++ reverse (turns_back first.schema first.tree (flat_map (λ g. g) (groups_view l.groups))))
    × (now.schema ≡ first.schema)

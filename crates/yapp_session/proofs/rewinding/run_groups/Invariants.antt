use Rattle.std.proofs.Common.{◌≡◌, drop}
use Rattle.yspec.specs.edit.Live.{with_tree}
use Rattle.yspec_session.specs.Remembering.{behind_groups}
use Rattle.ylive.specs.View.{view}
use Rattle.yapp_session.specs.View.{groups_view}
use Rattle.yapp_session.proofs.rewinding.run_groups.Given as goal

abbrev pub invariant-loop-group : goal.invariant-loop-group
invariant-loop-group l = let first = view l.initial.live in let now = view l.live in
    (with_tree (behind_groups first.schema now.tree (groups_view (drop l.group-index l.groups))) now
    ≡ with_tree (behind_groups first.schema first.tree (groups_view l.groups)) first)
    × (now.schema ≡ first.schema)

use Rattle.std.proofs.Common.{◌≡◌, ◌++◌, drop}
use Rattle.std.specs.List.{flat_map}
use Rattle.yapp_session.specs.View.{edits_view, group_view}
use Rattle.yapp_session.proofs.copying.joined_edits.Given as goal

abbrev pub invariant-loop-group : goal.invariant-loop-group
invariant-loop-group l = edits_view l.edits.items ++ flat_map group_view (drop l.group-index l.groups) ≡ flat_map group_view l.groups

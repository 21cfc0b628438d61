use Rattle.std.proofs.Common.{◌≡◌, map, drop}
use Rattle.std.specs.Prelude.{is_some}
use Rattle.yspec.specs.linking.TypeStatements.{member_types}
use Rattle.ylink_types.specs.TypeView.{verdict_view}
use Rattle.ylink_types.proofs.types.are_own.Given as goal

abbrev pub invariant-loop-member : goal.invariant-loop-member
invariant-loop-member l =
    is_some (member_types (map verdict_view (drop l.member-index l.members))) ≡ is_some (member_types (map verdict_view l.members))

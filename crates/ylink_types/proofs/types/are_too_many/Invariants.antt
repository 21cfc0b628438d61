use Rattle.std.proofs.Common.{◌≡◌, map, drop}
use Rattle.std.specs.Prelude.{nat_lt, sum_by}
use Rattle.yspec.specs.linking.TypeStatements.{member_limit, width_of}
use Rattle.ylink_types.specs.TypeView.{member_view}
use Rattle.ylink_types.proofs.types.are_too_many.Given as goal

abbrev pub invariant-loop-member : goal.invariant-loop-member
invariant-loop-member l =
    nat_lt l.left (sum_by width_of (map member_view (drop l.member-index l.members))) ≡ nat_lt member_limit (sum_by width_of (map member_view l.members))

use Rattle.std.proofs.Common.{◌≡◌, ◌++◌, map, drop}
use Rattle.ylink_types.specs.TypeView.{member_view}
use Rattle.ylink_types.proofs.types.copies_of.Given as goal

abbrev pub invariant-loop-member : goal.invariant-loop-member
invariant-loop-member l =
    map member_view l.copies.items ++ map member_view (drop l.member-index l.members) ≡ map member_view l.members

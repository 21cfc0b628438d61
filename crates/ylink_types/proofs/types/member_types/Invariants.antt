use Rattle.std.proofs.Common.{◌≡◌, length, map}
use Rattle.std.specs.Vec.Iter.{into_iter_items, into_iter_len}
use Rattle.yspec.specs.linking.TypeStatements.{member_types}
use Rattle.ylink_types.specs.TypeView.{verdict_view}
use Rattle.ylink_arguments.proofs.ListLemmas.{with_more}
use Rattle.ylink_types.proofs.types.member_types.Given as goal

abbrev pub invariant-loop-member : goal.invariant-loop-member
invariant-loop-member l = (with_more l.types.items (member_types (map verdict_view (into_iter_items l.member-iterator)))
    ≡ member_types (map verdict_view l.fn.members.items))
    × (into_iter_len l.member-iterator ≡ length (into_iter_items l.member-iterator))

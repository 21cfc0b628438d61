use Rattle.std.proofs.Common.{◌≡◌, length, map}
use Rattle.std.specs.Vec.Iter.{into_iter_items, into_iter_len}
use Rattle.yspec.specs.linking.TypeStatements.{members_in}
use Rattle.ylink_arguments.proofs.ListLemmas.{with_more}
use Rattle.ylink_types.specs.TypeView.{member_view, verdict_view}
use Rattle.ylink_types.proofs.types.members_in.Given as goal

abbrev pub invariant-loop-verdict : goal.invariant-loop-verdict
invariant-loop-verdict l = (with_more (map member_view l.members.items) (members_in (map verdict_view (into_iter_items l.verdict-iterator)))
    ≡ members_in (map verdict_view l.fn.verdicts.items))
    × (into_iter_len l.verdict-iterator ≡ length (into_iter_items l.verdict-iterator))

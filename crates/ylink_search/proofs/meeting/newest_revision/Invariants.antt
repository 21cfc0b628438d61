use Rattle.std.proofs.Common.{◌≡◌, drop, option_map}
use Rattle.yspec.specs.linking.Imports.{newest_from}
use Rattle.yspec_search.specs.Search.{newest_revision, revisions_in}
use Rattle.ytext.specs.View.{row_view}
use Rattle.ylink_search.proofs.meeting.newest_revision.Given as goal

-- the revisions that are left, behind the newest so far
abbrev pub invariant-loop-statement : goal.invariant-loop-statement
invariant-loop-statement l = newest_from (option_map (λ t. t.now) l.newest) (revisions_in (row_view (drop l.statement-index l.row)))
    ≡ newest_revision (row_view l.fn.row)

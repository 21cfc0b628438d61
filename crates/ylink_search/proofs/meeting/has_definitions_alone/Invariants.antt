use Rattle.std.proofs.Common.{◌≡◌, drop}
use Rattle.yspec_search.specs.Search.{has_definitions_alone}
use Rattle.ytext.specs.View.{row_view}
use Rattle.ylink_search.proofs.meeting.has_definitions_alone.Given as goal

abbrev pub invariant-loop-statement : goal.invariant-loop-statement
invariant-loop-statement l = has_definitions_alone (row_view (drop l.statement-index l.row)) ≡ has_definitions_alone (row_view l.fn.row)

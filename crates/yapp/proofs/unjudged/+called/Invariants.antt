use Rattle.std.proofs.Common.{◌≡◌, ◌+◌, drop, length}
use Rattle.ytext.specs.View.{row_view}
use Rattle.yspec_run.specs.Unjudged.{statements_called}
use Rattle.yapp.proofs.unjudged.+called.Given as goal

abbrev pub invariant-add_called-loop-statement : goal.invariant-add_called-loop-statement
invariant-add_called-loop-statement l =
    length l.found.items + statements_called l.keyword (row_view (drop l.statement-index l.statements)) ≡ length l.fn.found.items + statements_called l.keyword (row_view l.statements)

use Rattle.std.proofs.Common.{drop}
use Rattle.yinst_tree.specs.View.{row_view}
use Rattle.ycheck.proofs.CaseLemmas.{IsPassed}
use Rattle.ycheck.proofs.cases.is_stored.Given as goal

-- those before are passed over
abbrev pub invariant-loop-stored : goal.invariant-loop-stored
invariant-loop-stored l = IsPassed l.id.0 (row_view l.rest) (row_view (drop l.stored-index l.rest))

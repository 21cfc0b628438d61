use Rattle.std.proofs.Common.{drop}
use Rattle.ycheck.specs.Walk.{marks_told}
use Rattle.ylive_list.proofs.FoundLemmas.{Leaves}
use Rattle.ylive_list.proofs.listing.list_same.Given as goal

-- with what is told of the questions that are left, all is told
abbrev pub invariant-loop-which : goal.invariant-loop-which
invariant-loop-which l = Leaves l.fn.findings l.findings (marks_told l.is_item l.which (drop l.which l.same)) (marks_told l.is_item 0 l.same)

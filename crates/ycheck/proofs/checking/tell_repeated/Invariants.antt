use Rattle.std.proofs.Common.{drop, map}
use Rattle.ycheck.specs.Walk.{marks_told, marks_at}
use Rattle.ycheck.proofs.FoundLemmas.{Leaves}
use Rattle.ycheck.proofs.checking.tell_repeated.Given as goal

-- with what is told of the questions that are left, all is told
abbrev pub invariant-loop-which : goal.invariant-loop-which
invariant-loop-which l = Leaves l.fn.findings l.findings
    (marks_told l.is_item l.which (marks_at l.fn.index (map (λ marks. marks.items) (drop l.which l.repeated))))
    (marks_told l.is_item 0 (marks_at l.fn.index (map (λ marks. marks.items) l.repeated)))

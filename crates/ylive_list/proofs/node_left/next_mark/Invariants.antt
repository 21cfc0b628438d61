use Rattle.std.proofs.Common.{length, ◌-◌, ◌≡◌, Bool, drop}
use Rattle.ycheck.specs.Walk.{marks_told}
use Rattle.ylive_list.proofs.node_left.next_mark.Given as goal

-- nothing is told of the questions that are passed
abbrev pub invariant-loop-which : goal.invariant-loop-which
invariant-loop-which l = (is_item : Bool) → marks_told is_item l.from (drop l.from l.same) ≡ marks_told is_item l.which (drop l.which l.same)

abbrev pub decreases-loop-which : goal.decreases-loop-which
decreases-loop-which l = length l.same - l.which

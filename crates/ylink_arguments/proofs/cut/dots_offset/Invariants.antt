use Rattle.std.proofs.Common.{◌≡◌, ◌-◌, ◌≤◌, length, take, drop}
use Rattle.yspec.specs.linking.Arguments.{cut_at_dots}
use Rattle.ylink_arguments.proofs.CutLemmas.{dots_behind}
use Rattle.ylink_arguments.proofs.cut.dots_offset.Given as goal

abbrev pub invariant-loop-at : goal.invariant-loop-at
invariant-loop-at l = record {
  within : l.at ≤ length l.bytes;
  rest : dots_behind (take l.at l.bytes) (cut_at_dots (drop l.at l.bytes)) ≡ cut_at_dots l.bytes;
}

abbrev pub decreases-loop-at : goal.decreases-loop-at
decreases-loop-at l = length l.bytes - l.at

use Rattle.std.proofs.Common.{◌≡◌, ◌-◌, ◌≤◌, length, take, drop, None}
use Rattle.yspec.specs.edit.EditText.{cut_at}
use Rattle.yinst_path.proofs.CutLemmas.{cut_behind}
use Rattle.yinst_path.proofs.cutting.stop_offset.Given as goal

abbrev pub invariant-loop-at : goal.invariant-loop-at
invariant-loop-at l = record {
  within : l.at ≤ length l.bytes;
  rest : cut_behind (take l.at l.bytes) (cut_at l.stop l.quote (drop l.at l.bytes)) ≡ cut_at l.stop None l.bytes;
}

abbrev pub decreases-loop-at : goal.decreases-loop-at
decreases-loop-at l = length l.bytes - l.at

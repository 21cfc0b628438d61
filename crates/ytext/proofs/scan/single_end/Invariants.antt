use Rattle.std.proofs.Common.{◌≡◌, ◌+◌, ◌-◌, ◌≤◌, length, drop, option_map}
use Rattle.yspec.specs.text.Token.{single_length}
use Rattle.ytext.proofs.scan.single_end.Given as goal

abbrev pub invariant-loop-at : goal.invariant-loop-at
invariant-loop-at l = record {
  from : l.from ≤ l.at;
  within : l.at ≤ length l.bytes;
  rest : option_map (λ n. l.at + n) (single_length (drop l.at l.bytes)) ≡ option_map (λ n. l.from + n) (single_length (drop l.from l.bytes));
}

abbrev pub decreases-loop-at : goal.decreases-loop-at
decreases-loop-at l = length l.bytes - l.at

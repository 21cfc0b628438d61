use Rattle.std.proofs.Common.{◌≡◌, ◌++◌, ◌-◌, ◌≤◌, length, drop}
use Rattle.std.specs.Prelude.{slice_range}
use Rattle.yspec.specs.text.Token.{joined_breaks}
use Rattle.ytext.proofs.quoted.return_offset.Given as goal

abbrev pub invariant-loop-at : goal.invariant-loop-at
invariant-loop-at l = record {
  forward : l.from ≤ l.at;
  within : l.at ≤ length l.raw;
  same : joined_breaks (drop l.from l.raw) ≡ slice_range l.raw l.from l.at ++ joined_breaks (drop l.at l.raw);
}

abbrev pub decreases-loop-at : goal.decreases-loop-at
decreases-loop-at l = length l.raw - l.at

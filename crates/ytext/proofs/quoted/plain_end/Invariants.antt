use Rattle.std.proofs.Common.{◌≡◌, Bool, ℕ, List, ◌++◌, ◌-◌, ◌<◌, ◌≤◌, length, drop}
use Rattle.std.specs.Prelude.{slice_range}
use Rattle.ytext.specs.Quoted.{reading_in}
use Rattle.ytext.proofs.quoted.plain_end.Given as goal

abbrev pub invariant-loop-at : goal.invariant-loop-at
invariant-loop-at l = record {
  forward : l.from < l.at;
  within : l.at ≤ length l.raw;
  same : (is_yang_1 : Bool) (width left line : ℕ) (text : List ℕ) → reading_in is_yang_1 width left line text (drop l.from l.raw) ≡ reading_in is_yang_1 width 0 line (text ++ slice_range l.raw l.from l.at) (drop l.at l.raw);
}

abbrev pub decreases-loop-at : goal.decreases-loop-at
decreases-loop-at l = length l.raw - l.at

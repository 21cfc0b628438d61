use Rattle.std.proofs.Common.{◌≡◌, true, ◌-◌, ◌≤◌, length}
use Rattle.std.specs.Prelude.{slice_range}
use Rattle.std.specs.Str.{IsCharBoundary}
use Rattle.ytext.specs.Quoted.{all_blank}
use Rattle.ytext.proofs.quoted.blanks_end.Given as goal

abbrev pub invariant-loop-at : goal.invariant-loop-at
invariant-loop-at l = record {
  forward : l.from ≤ l.at;
  place : IsCharBoundary l.raw l.at;
  blank : all_blank (slice_range l.raw l.from l.at) ≡ true;
}

abbrev pub decreases-loop-at : goal.decreases-loop-at
decreases-loop-at l = length l.raw - l.at

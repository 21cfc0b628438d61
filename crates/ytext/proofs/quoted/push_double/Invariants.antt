use Rattle.std.proofs.Common.{◌≡◌, ◌<◌, ◌+◌, ◌^◌, ◌-◌, length, drop, string_bytes}
use Rattle.std.specs.Str.{IsCharBoundary}
use Rattle.ytext.specs.Quoted.{reading_in}
use Rattle.ytext.proofs.quoted.push_double.Given as goal

abbrev pub invariant-loop-place : goal.invariant-loop-place
invariant-loop-place l = record {
  place : IsCharBoundary l.raw l.place.at;
  few_lines : l.place.line + length l.raw < 2 ^ 32 + l.place.at;
  rest : reading_in l.is_yang_1 l.width l.place.left l.place.line (string_bytes l.text) (drop l.place.at l.raw) ≡ reading_in l.is_yang_1 l.width 0 l.line (string_bytes l.fn.text) l.raw;
}

abbrev pub decreases-loop-place : goal.decreases-loop-place
decreases-loop-place l = length l.raw - l.place.at

use Rattle.std.proofs.Common.{◌≡◌, true, ◌++◌, ◌-◌, ◌≤◌, string_bytes}
use Rattle.std.specs.Prelude.{slice_range}
use Rattle.std.specs.Str.{IsCharBoundary}
use Rattle.yspec.specs.text.Token.{stripped_starts}
use Rattle.ytext.specs.Quoted.{all_blank}
use Rattle.ytext.proofs.quoted.push_blanks.Given as goal

abbrev pub invariant-loop-at : goal.invariant-loop-at
invariant-loop-at l = record {
  within : l.at ≤ l.end;
  place : IsCharBoundary l.raw l.at;
  blank : all_blank (slice_range l.raw l.at l.end) ≡ true;
  rest : string_bytes l.text ++ stripped_starts 0 l.left (slice_range l.raw l.at l.end) ≡ string_bytes l.fn.text ++ stripped_starts 0 l.fn.left (slice_range l.raw l.start l.end);
}

abbrev pub decreases-loop-at : goal.decreases-loop-at
decreases-loop-at l = l.end - l.at

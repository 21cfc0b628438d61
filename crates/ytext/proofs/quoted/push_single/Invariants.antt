use Rattle.std.proofs.Common.{◌≡◌, ◌++◌, ◌-◌, length, drop, string_bytes}
use Rattle.std.specs.Str.{IsCharBoundary}
use Rattle.yspec.specs.text.Token.{joined_breaks}
use Rattle.ytext.proofs.quoted.push_single.Given as goal

abbrev pub invariant-loop-at : goal.invariant-loop-at
invariant-loop-at l = record {
  place : IsCharBoundary l.raw l.at;
  rest : string_bytes l.text ++ joined_breaks (drop l.at l.raw) ≡ string_bytes l.fn.text ++ joined_breaks l.raw;
}

abbrev pub decreases-loop-at : goal.decreases-loop-at
decreases-loop-at l = length l.raw - l.at

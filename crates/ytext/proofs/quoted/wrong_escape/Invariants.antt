use Rattle.std.proofs.Common.{◌≡◌, ◌+◌, ◌<◌, true, false, drop}
use Rattle.yspec.specs.text.Scanning.{wrong_escape}
use Rattle.ytext.proofs.quoted.wrong_escape.Given as goal

abbrev pub invariant-loop-byte : goal.invariant-loop-byte
invariant-loop-byte l = record {
  rest : wrong_escape l.is_escaped l.place (drop l.byte-index l.raw) ≡ wrong_escape false l.from l.raw;
  place : l.place ≡ l.from + l.byte-index;
  behind : l.is_escaped ≡ true → 0 < l.byte-index;
}

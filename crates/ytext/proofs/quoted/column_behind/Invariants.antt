use Rattle.std.proofs.Common.{◌≡◌, ◌+◌, ◌*◌, ◌≤◌, drop}
use Rattle.yspec.specs.text.Token.{column_behind}
use Rattle.ytext.proofs.quoted.column_behind.Given as goal

abbrev pub invariant-loop-byte : goal.invariant-loop-byte
invariant-loop-byte l = record {
  rest : column_behind l.column (drop l.byte-index l.bytes) ≡ column_behind 1 l.bytes;
  bound : l.column ≤ 1 + 8 * l.byte-index;
}

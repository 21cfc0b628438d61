use Rattle.std.proofs.Common.{◌≡◌, ◌+◌, ◌≤◌, drop}
use Rattle.yspec.specs.text.Text.{line_behind}
use Rattle.ytext.proofs.text.line_behind.Given as goal

abbrev pub invariant-loop-byte : goal.invariant-loop-byte
invariant-loop-byte l = record {
  rest : line_behind l.line (drop l.byte-index l.bytes) ≡ line_behind 1 l.bytes;
  bound : l.line ≤ l.byte-index + 1;
}

use Rattle.std.proofs.Common.{◌≡◌, ◌≤◌, ◌+◌, drop}
use Rattle.ysay_jumps.specs.Beginning.{column_behind}
use Rattle.ysay_jumps.proofs.line_start.first_column.Given as goal

abbrev pub invariant-loop-byte : goal.invariant-loop-byte
invariant-loop-byte l = (column_behind l.left l.column (drop l.byte-index l.bytes) ≡ column_behind l.lines 1 l.bytes) × (l.column ≤ l.byte-index + 1)

use Rattle.std.proofs.Common.{◌≡◌, ◌≤◌, IfSome, drop}
use Rattle.std.specs.Prelude.{Some}
use Rattle.ysay_slips.specs.Walk.{indent_behind}
use Rattle.ysay_slips.proofs.walk.indent_behind.Given as goal

-- what is left comes to what all does, and no more blanks stand there than bytes
abbrev pub invariant-loop-at : goal.invariant-loop-at
invariant-loop-at l = record {
  left : indent_behind l.indent (drop l.at l.bytes) ≡ indent_behind (Some 0) l.bytes;
  few : IfSome l.indent (λ n. n ≤ l.at);
}

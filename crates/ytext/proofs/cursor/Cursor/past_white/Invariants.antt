use Rattle.std.proofs.Common.{◌≡◌, ◌+◌, ◌-◌, ◌≤◌, drop, length}
use Rattle.std.specs.Str.{IsCharBoundary}
use Rattle.ytext.specs.Versions.{pieces_by}
use Rattle.ytext.specs.Left.{pieces_left, column_at}
use Rattle.ytext.proofs.cursor.Cursor.past_white.Given as goal

abbrev pub invariant-loop-at : goal.invariant-loop-at
invariant-loop-at l = record {
  forward : l.self.at ≤ l.at;
  line : l.line ≤ l.at + 1;
  begun : l.line_start ≤ l.at;
  place : IsCharBoundary l.self.text.now l.at;
  pieces : pieces_left l.self ≡ pieces_by l.self.standing 0 l.at l.line (column_at l.self.text.now l.line_start l.at) (drop l.at l.self.text.now);
}

abbrev pub decreases-loop-at : goal.decreases-loop-at
decreases-loop-at l = length l.bytes - l.at

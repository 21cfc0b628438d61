use Rattle.std.proofs.Common.{◌≡◌, ◌≤◌, ◌-◌, length}
use Rattle.ytext.specs.Left.{pieces_left}
use Rattle.ytext.proofs.cursor.Cursor.found.Given as goal

abbrev pub invariant-loop-cursor : goal.invariant-loop-cursor
invariant-loop-cursor l = record {
  text : l.cursor.text.now ≡ l.self.text.now;
  at : l.self.at ≤ l.cursor.at;
  pieces : pieces_left l.self ≡ pieces_left l.cursor;
}

abbrev pub decreases-loop-cursor : goal.decreases-loop-cursor
decreases-loop-cursor l = length l.bytes - l.cursor.at

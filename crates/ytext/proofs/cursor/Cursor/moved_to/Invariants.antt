use Rattle.std.proofs.Common.{◌≡◌, ◌+◌, ◌-◌, ◌≤◌, drop}
use Rattle.ytext.specs.Versions.{pieces_by}
use Rattle.ytext.specs.Left.{pieces_behind, column_at}
use Rattle.ytext.proofs.cursor.Cursor.moved_to.Given as goal

abbrev pub invariant-loop-i : goal.invariant-loop-i
invariant-loop-i l = record {
  line : l.line ≤ l.i + 1;
  begun : l.line_start ≤ l.i;
  pieces : pieces_by l.self.standing (l.end - l.i) l.i l.line (column_at l.self.text.now l.line_start l.i) (drop l.i l.self.text.now) ≡ pieces_behind (l.end - l.self.at) l.self;
}

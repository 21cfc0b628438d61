use Rattle.std.proofs.Common.{◌≡◌, ◌+◌, ◌≤◌, drop, length}
use Rattle.std.specs.Str.{chars}
use Rattle.yspec.specs.text.Text.{forbidden_line}
use Rattle.ytext.specs.Characters.{pending}
use Rattle.ytext.proofs.text.forbidden_line.Given as goal

abbrev pub invariant-loop-character : goal.invariant-loop-character
invariant-loop-character l = record {
  rest : pending l.has_returned l.line (drop (length l.yielded) (chars l.text)) ≡ forbidden_line 1 (chars l.text);
  bound : l.line ≤ length l.yielded + 1;
  count : length l.yielded ≤ length l.text;
}

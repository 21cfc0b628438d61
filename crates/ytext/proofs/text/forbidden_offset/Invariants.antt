use Rattle.std.proofs.Common.{◌≡◌, ◌+◌, ◌<◌, true, drop, length}
use Rattle.std.specs.Str.{chars}
use lib.Utf8.{encodes}
use Rattle.yspec.specs.text.Scanning.{forbidden_offset}
use Rattle.ytext.specs.Characters.{pending_place}
use Rattle.ytext.proofs.text.forbidden_offset.Given as goal

abbrev pub invariant-loop-character : goal.invariant-loop-character
invariant-loop-character l = record {
  rest : pending_place l.has_returned l.place (drop (length l.yielded) (chars l.text)) ≡ forbidden_offset 0 (chars l.text);
  behind : l.has_returned ≡ true → 0 < l.place;
  bound : l.place + length (encodes (drop (length l.yielded) (chars l.text))) ≡ length l.text;
}

use Rattle.std.proofs.Common.{◌≡◌, drop, length}
use Rattle.std.specs.Str.{chars}
use Rattle.ytype_patterns.specs.ReadingView.{left_behind, nothing_read, reader_view}
use Rattle.ytype_patterns.proofs.reading.spelled_by.Given as goal

-- what was read and the characters that are left spell what the text spells
abbrev pub invariant-loop-c : goal.invariant-loop-c
invariant-loop-c l = left_behind (reader_view l.reader) (drop (length l.yielded) (chars l.text)) ≡ left_behind nothing_read (chars l.text)

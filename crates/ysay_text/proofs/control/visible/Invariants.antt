use Rattle.std.proofs.Common.{◌≡◌, ◌++◌, drop, length, string_bytes}
use Rattle.std.specs.List.{flat_map}
use Rattle.std.specs.Str.{chars}
use Rattle.ysay_text.specs.Control.{visible_character}
use Rattle.ysay_text.proofs.control.visible.Given as goal

-- what was added, and what the characters that are left come to
abbrev pub invariant-loop-character : goal.invariant-loop-character
invariant-loop-character l = string_bytes l.seen ++ flat_map visible_character (drop (length l.yielded) (chars l.text))
    ≡ flat_map visible_character (chars l.text)

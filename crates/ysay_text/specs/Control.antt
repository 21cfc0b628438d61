-- Characters that a terminal obeys in place of showing them, and texts in which they are to be seen.
use Rattle.std.specs.Prelude.{ℕ, ◌/◌, ◌%◌, ◌&&◌, ◌||◌, ◌++◌, Bool, [], ◌∷◌, codes, if◌then◌else◌, nat_lt, nat_le}
use Rattle.std.specs.List.{flat_map, list_any}
use Rattle.std.specs.Char.{encode_utf8}
use Rattle.std.specs.Str.{chars}
use Rattle.yspec.specs.text.Text.{Text, space}
use Rattle.ysay_text.specs.Line.{hex_digit}

-- U+0000 to U+001F, and U+007F to U+009F
abbrev pub is_control : ℕ → Bool
is_control c = nat_lt c space || (nat_le 127 c && nat_lt c 160)

abbrev pub has_control : Text → Bool
has_control t = list_any is_control (chars t)

-- `\u00` and two digits, as a text of JSON spells it
abbrev pub code_text : ℕ → Text
code_text c = codes "\\u00" ++ (hex_digit (c / 16) ∷ hex_digit (c % 16) ∷ [])

abbrev pub visible_character : ℕ → Text
visible_character c = if is_control c then code_text c else encode_utf8 c

abbrev pub visible : Text → Text
visible t = flat_map visible_character (chars t)

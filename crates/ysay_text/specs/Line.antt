-- A line of a text, and how it is shown to a person.
use Rattle.std.specs.Prelude.{ℕ, zero, suc, ◌+◌, ◌-◌, ◌/◌, ◌%◌, ◌==◌, ◌&&◌, ◌||◌, ◌++◌, Bool, not, List, [], ◌∷◌, length, drop, take, position, codes, if◌then◌else◌, nat_lt, nat_le}
use Rattle.std.specs.List.{flat_map, list_all}
use Rattle.std.specs.Option.{option_map_or}
use Rattle.std.specs.Str.{chars, encode_utf8_all, is_utf8}
use Rattle.yspec.specs.text.Text.{Text, is_blank, tab, space, line_feed, carriage_return}

-- ---- where it stands

abbrev pub ends_line : ℕ → Bool
ends_line x = x == line_feed || x == carriage_return

-- what stands before the first line break
abbrev pub first_line : List ℕ → List ℕ
first_line bytes = option_map_or (λ at. take at bytes) (position ends_line bytes) bytes

-- what stands behind the first line feed
abbrev pub other_lines : List ℕ → List ℕ
other_lines bytes = option_map_or (λ at. drop (at + 1) bytes) (position (λ x. x == line_feed) bytes) []

-- what stands behind so many lines
abbrev pub behind_lines : ℕ → List ℕ → List ℕ
behind_lines zero bytes = bytes
behind_lines (suc n) bytes = behind_lines n (other_lines bytes)

-- the line of a number, counted from 1, without what ends it
abbrev pub line_at : ℕ → List ℕ → List ℕ
line_at number bytes = first_line (behind_lines (number - 1) bytes)

-- ---- what of it is shown

abbrev pub without_blanks : List ℕ → List ℕ
without_blanks [] = []
without_blanks (x ∷ xs) = if is_blank x then without_blanks xs else x ∷ xs

-- ---- what a terminal takes as a character to show

-- characters without a shape of their own, or which turn the direction of what follows
abbrev pub is_formatting : ℕ → Bool
is_formatting c = (nat_le 0x200B c && nat_le c 0x200F) || ((nat_le 0x2028 c && nat_le c 0x202E)
    || ((nat_le 0x2060 c && nat_le c 0x206F) || c == 0xFEFF))

-- neither a control character but for the tab, nor one of these
abbrev pub is_shown : ℕ → Bool
is_shown c = c == tab || ((nat_le space c && nat_lt c 127) || (nat_le 160 c && not (is_formatting c)))

-- so many characters of a line are shown
abbrev pub shown_limit : ℕ
shown_limit = 100

-- ---- a line of which something isn't shown

abbrev pub hex_digit : ℕ → ℕ
hex_digit n = if nat_lt n 10 then 48 + n else 87 + n

abbrev pub is_printed : ℕ → Bool
is_printed x = nat_le space x && nat_lt x 127

-- `\x` and two digits, for a byte that is no character of ASCII to be printed
abbrev pub escaped : ℕ → Text
escaped x = if is_printed x then x ∷ [] else codes "\\x" ++ (hex_digit (x / 16) ∷ hex_digit (x % 16) ∷ [])

-- ---- all

-- marks that something is left out behind it
abbrev pub ended : Bool → Text
ended is_whole = if is_whole then [] else codes " .."

-- A line of characters that are all shown is shown as it is, up to a limit; any other byte by byte.
abbrev pub shown : List ℕ → Text
shown line = if is_utf8 line && list_all is_shown (chars line)
    then encode_utf8_all (take shown_limit (chars line)) ++ ended (nat_le (length (chars line)) shown_limit)
    else flat_map escaped (take shown_limit line) ++ ended (nat_le (length line) shown_limit)

-- the line of a number as it is shown, without the blanks before it
unfoldable pub shown_line : ℕ → List ℕ → Text
shown_line number bytes = shown (without_blanks (line_at number bytes))

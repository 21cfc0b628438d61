-- What the rest of a double-quoted string says.
use Rattle.std.specs.Prelude.{ℕ, List, [], ◌∷◌, ◌++◌, Bool, true, false, not, ◌&&◌, ◌||◌, ◌==◌, if◌then◌else◌, Result, Ok}
use Rattle.std.specs.Option.{option_map_or}
use Rattle.yspec.specs.text.Text.{Text, begins, is_blank, tab, line_feed, carriage_return, backslash}
use Rattle.yspec.specs.text.Token.{joined_breaks, trimmed_ends, stripped_starts, unescaped, bad_escape_line}
use Rattle.yspec.specs.text.Statement.{Slip, slip}
use Rattle.ytext.specs.Versions.{raw_in}

-- `left` columns of its line are still to be stripped
unfoldable pub said : ℕ → ℕ → List ℕ → Text
said width left xs = unescaped false (stripped_starts width left (trimmed_ends (joined_breaks xs)))

-- what comes of the rest in a line, this text standing before it
unfoldable pub reading : ℕ → ℕ → ℕ → Text → List ℕ → Result Text Slip
reading width left line text xs =
    option_map_or (λ bad. slip 4 bad) (bad_escape_line false line xs) (Ok (text ++ said width left xs))

-- the same in YANG 1, or in YANG 1.1
unfoldable pub reading_in : Bool → ℕ → ℕ → ℕ → Text → List ℕ → Result Text Slip
reading_in is_yang_1 width left line text xs = reading width left line text (raw_in is_yang_1 xs)

abbrev pub all_blank : List ℕ → Bool
all_blank [] = true
all_blank (x ∷ xs) = is_blank x && all_blank xs

-- how many columns a space or a tab takes
abbrev pub blank_width : ℕ → ℕ
blank_width x = if x == tab then 8 else 1

-- a line break, the carriage return in front of it or not
abbrev pub is_break : List ℕ → Bool
is_break [] = false
is_break (x ∷ xs) = x == line_feed || (x == carriage_return && begins line_feed xs)

-- neither white space nor a line break
abbrev pub is_solid : List ℕ → Bool
is_solid [] = true
is_solid (x ∷ xs) = not (is_blank x) && not (is_break (x ∷ xs))

-- a character that stands for itself wherever it is
abbrev pub is_plain : List ℕ → Bool
is_plain [] = false
is_plain (x ∷ xs) = not (x == backslash) && is_solid (x ∷ xs)

-- Where the tokens of a JSON text begin (RFC 8259, 2): each bracket and brace, a string or a name with its opening quote,
-- and a number, `true`, `false` or `null` with its first byte. Commas, colons and white space are none.
use Rattle.std.specs.Prelude.{ℕ, ◌+◌, ◌==◌, ◌||◌, ◌++◌, Bool, false, not, List, [], ◌∷◌, if◌then◌else◌}
use Rattle.json.specs.Ascii as ascii
use Rattle.json.specs.Lex.{Mode, between, in_word, in_string, in_escape}
use Rattle.json.specs.Word.{is_space}

abbrev pub is_bracket : ℕ → Bool
is_bracket x = (x == ascii.open_brace) || (x == ascii.close_brace) || (x == ascii.open_bracket) || (x == ascii.close_bracket)

-- white space, a comma or a colon
abbrev pub is_gap : ℕ → Bool
is_gap x = is_space x || (x == ascii.comma) || (x == ascii.colon)

-- whether a token begins with a byte: between tokens, in a word, in a string, or behind a backslash of one
abbrev pub begins : Mode → ℕ → Bool
begins between x = not (is_gap x)
begins in_word x = is_bracket x
begins in_string x = false
begins in_escape x = false

-- what the next byte stands in, behind one of a word or of none
abbrev pub behind_word : ℕ → Mode
behind_word x = if is_bracket x || is_gap x then between else in_word

-- and behind one of a string
abbrev pub behind_string : ℕ → Mode
behind_string x = if x == ascii.quote then between else (if x == ascii.backslash then in_escape else in_string)

abbrev pub behind : Mode → ℕ → Mode
behind between x = if x == ascii.quote then in_string else behind_word x
behind in_word x = behind_word x
behind in_string x = behind_string x
behind in_escape x = in_string

-- in bytes that stand at an offset
unfoldable pub starts_from : Mode → ℕ → List ℕ → List ℕ
starts_from mode offset [] = []
starts_from mode offset (x ∷ xs) =
    (if begins mode x then offset ∷ [] else []) ++ starts_from (behind mode x) (offset + 1) xs

-- the offsets at which the tokens of a text begin
abbrev pub starts : List ℕ → List ℕ
starts bytes = starts_from between 0 bytes

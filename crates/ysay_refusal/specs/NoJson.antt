-- What is said of bytes that are no JSON (J1), byte by byte: of a comment, of a text in single quotes, of a comma behind the last
-- member or item, and of an end before all brackets are closed; whichever comes first (RFC 8259, 2).
use Rattle.std.specs.Prelude.{ℕ, ◌+◌, ◌-◌, ◌==◌, ◌||◌, Bool, true, false, List, [], ◌∷◌, codes, min, nat_lt, if◌then◌else◌}
use Rattle.yspec.specs.text.Text.{Text, backslash, close_brace, colon, double_quote, is_digit, is_letter, is_white, open_brace, plus, single_quote, slash, space, star}
use Rattle.yspec.specs.edit.EditText.{close_bracket, open_bracket}

-- ---- bytes

abbrev pub comma : ℕ
comma = 44

abbrev pub opens : ℕ → Bool
opens x = x == open_brace || x == open_bracket

abbrev pub closes : ℕ → Bool
closes x = x == close_brace || x == close_bracket

-- of a number, or of `true`, `false` or `null`
abbrev pub is_of_word : ℕ → Bool
is_of_word x = is_letter x || (is_digit x || (x == 45 || (x == plus || x == 46)))

-- ---- what is read so far

pub data Reached : Type 0 where
  -- a value is due, and no bracket closes
  due : Reached
  behind_comma : Reached
  behind_open : Reached
  in_word : Reached
  in_text : Reached
  behind_backslash : Reached
  behind_slash : Reached
  -- behind a text, which may be a name
  behind_text : Reached
  -- behind another value
  behind_value : Reached
  -- what is told
  comment : Reached
  single_quotes : Reached
  comma_in_object : Reached
  comma_in_array : Reached
  -- of what is wrong first nothing is told
  other : Reached

-- where a value or a name is due; behind white space, and behind a bracket that closes, these are reached
abbrev pub at_due : Reached → Reached → ℕ → Reached
at_due same closed x = if is_white x then same else (if x == double_quote then in_text
    else (if x == single_quote then single_quotes else (if x == slash then behind_slash
    else (if opens x then behind_open else (if closes x then closed else (if is_of_word x then in_word else other))))))

abbrev pub comma_before : ℕ → Reached
comma_before x = if x == close_brace then comma_in_object else comma_in_array

abbrev pub at_value_end : ℕ → Reached
at_value_end x = if is_white x || closes x then behind_value else (if x == comma then behind_comma
    else (if x == slash then behind_slash else other))

abbrev pub at_text_end : ℕ → Reached
at_text_end x = if is_white x then behind_text else (if x == colon then due else at_value_end x)

abbrev pub at_word : ℕ → Reached
at_word x = if is_of_word x then in_word else at_value_end x

abbrev pub at_text : ℕ → Reached
at_text x = if x == double_quote then behind_text else (if x == backslash then behind_backslash
    else (if nat_lt x space then other else in_text))

abbrev pub at_slash : ℕ → Reached
at_slash x = if x == slash || x == star then comment else other

-- behind one more byte
abbrev pub step : Reached → ℕ → Reached
step due x = at_due due other x
step behind_comma x = at_due behind_comma (comma_before x) x
step behind_open x = at_due behind_open behind_value x
step in_word x = at_word x
step in_text x = at_text x
step behind_backslash x = in_text
step behind_slash x = at_slash x
step behind_text x = at_text_end x
step behind_value x = at_value_end x
step comment x = comment
step single_quotes x = single_quotes
step comma_in_object x = comma_in_object
step comma_in_array x = comma_in_array
step other x = other

abbrev pub is_text_byte : Reached → Bool
is_text_byte in_text = true
is_text_byte behind_backslash = true
is_text_byte _ = false

-- so many open brackets are told apart
abbrev pub most_open : ℕ
most_open = 4294967295

abbrev pub deeper : ℕ → ℕ
deeper depth = min (depth + 1) most_open

-- how many brackets are open behind a byte that stands in no text
abbrev pub depth_behind : ℕ → ℕ → ℕ
depth_behind x depth = if opens x then deeper depth else (if closes x then depth - 1 else depth)

abbrev pub depth_after : Reached → ℕ → ℕ → ℕ
depth_after reached x depth = if is_text_byte reached then depth else depth_behind x depth

-- ---- what is said

abbrev pub at_end : ℕ → Text
at_end depth = if depth == 0 then [] else codes "the document ends before all brackets are closed."

abbrev pub said_where : Reached → ℕ → Text
said_where comment depth = codes "JSON has no comments."
said_where single_quotes depth = codes "JSON wants double quotes."
said_where comma_in_object depth = codes "no comma stands behind the last member."
said_where comma_in_array depth = codes "no comma stands behind the last item."
said_where other depth = []
said_where _ depth = at_end depth

-- of the bytes that are left
abbrev pub said_from : Reached → ℕ → List ℕ → Text
said_from reached depth [] = said_where reached depth
said_from reached depth (x ∷ bytes) = said_from (step reached x) (depth_after reached x depth) bytes

unfoldable pub said_of_no_json : List ℕ → Text
said_of_no_json bytes = said_from due 0 bytes

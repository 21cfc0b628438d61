-- The tokens of a module's text (RFC 7950, 6.1 to 6.1.3), each with its line. White space and comments stand between
-- tokens and are none themselves.
use Rattle.std.specs.Prelude.{ℕ, zero, suc, ◌+◌, ◌-◌, ◌==◌, ◌&&◌, ◌||◌, Bool, true, false, List, [], ◌∷◌, ◌++◌, drop, take, replicate, Option, Some, None, option_map, if◌then◌else◌, nat_lt, nat_le}
use Rattle.std.specs.Option.{option_map_or}
use Rattle.yspec.specs.text.Text.{Text, begins, is_blank, is_white, line_after, tab, line_feed, carriage_return, space, double_quote, single_quote, star, slash, semicolon, backslash, open_brace, close_brace}

-- A quoted string is held as it stands between its quotes, a double-quoted one with the column of its opening quote.
-- The last three end a text: its end, what is opened and never closed, and `*/` with no comment before it.
pub data Lexeme : Type 0 where
  word : Text → Lexeme
  single : Text → Lexeme
  double : ℕ → Text → Lexeme
  semi : Lexeme
  open_block : Lexeme
  close_block : Lexeme
  finish : Lexeme
  unclosed_quote : Lexeme
  unclosed_comment : Lexeme
  stray_end : Lexeme

pub record Token : Type 0 where
  pub line : ℕ
  pub lexeme : Lexeme

-- ---- how long each piece is

-- `//` and what follows it in its line
abbrev pub line_comment_length : List ℕ → ℕ
line_comment_length [] = 0
line_comment_length (x ∷ xs) = if x == line_feed then 0 else suc (line_comment_length xs)

-- behind `/*`: to the end of the nearest `*/`
abbrev pub comment_rest_length : List ℕ → Option ℕ
comment_rest_length [] = None
comment_rest_length (x ∷ xs) =
    if x == star && begins slash xs then Some 2 else option_map suc (comment_rest_length xs)

-- behind a single quote: to the next one
abbrev pub single_length : List ℕ → Option ℕ
single_length [] = None
single_length (x ∷ xs) = if x == single_quote then Some 0 else option_map suc (single_length xs)

-- behind a double quote: to the next one that no backslash stands before
abbrev pub double_length : Bool → List ℕ → Option ℕ
double_length escaped [] = None
double_length true (x ∷ xs) = option_map suc (double_length false xs)
double_length false (x ∷ xs) =
    if x == double_quote then Some 0 else option_map suc (double_length (x == backslash) xs)

abbrev pub is_delimiter : ℕ → Bool
is_delimiter x = is_white x || ((x == double_quote || x == single_quote)
    || (x == semicolon || (x == open_brace || x == close_brace)))

-- white space, a quote, `;`, `{`, `}`, `//`, `/*` or `*/` ends a word
abbrev pub ends_word : ℕ → List ℕ → Bool
ends_word x xs = is_delimiter x || ((x == slash && (begins slash xs || begins star xs))
    || (x == star && begins slash xs))

-- a word is as long as it can be
abbrev pub word_length : List ℕ → ℕ
word_length [] = 0
word_length (x ∷ xs) = if ends_word x xs then 0 else suc (word_length xs)

-- ---- what stands at the front of a text

-- a gap or a token, with its length, or what ends the text
pub data Front : Type 0 where
  gap : ℕ → Front
  token : Lexeme → ℕ → Front
  last : Lexeme → Front

abbrev pub comment_front : List ℕ → Front
comment_front xs = option_map_or (λ n. gap (n + 2)) (comment_rest_length xs) (last unclosed_comment)

abbrev pub single_front : List ℕ → Front
single_front xs =
    option_map_or (λ n. token (single (take n xs)) (n + 2)) (single_length xs) (last unclosed_quote)

abbrev pub double_front : ℕ → List ℕ → Front
double_front column xs = option_map_or (λ n. token (double column (take n xs)) (n + 2)) (double_length false xs)
    (last unclosed_quote)

abbrev pub slash_front : List ℕ → Front
slash_front xs = if begins slash xs then gap (suc (line_comment_length xs))
    else (if begins star xs then comment_front (drop 1 xs)
    else token (word (slash ∷ take (word_length xs) xs)) (suc (word_length xs)))

abbrev pub other_front : ℕ → List ℕ → Front
other_front x xs = if x == star && begins slash xs then last stray_end
    else token (word (x ∷ take (word_length xs) xs)) (suc (word_length xs))

abbrev pub front : ℕ → ℕ → List ℕ → Front
front column x xs = if is_white x then gap 1
    else (if x == slash then slash_front xs
    else (if x == single_quote then single_front xs
    else (if x == double_quote then double_front column xs
    else (if x == semicolon then token semi 1
    else (if x == open_brace then token open_block 1
    else (if x == close_brace then token close_block 1
    else other_front x xs))))))

-- ---- the tokens of a text

-- Columns count from 1. A tab counts eight, and each other character one, however many bytes it has.
abbrev pub column_after : ℕ → ℕ → ℕ
column_after x column = if x == line_feed then 1
    else (if x == tab then column + 8
    else (if nat_le 128 x && nat_lt x 192 then column else column + 1))

-- the column behind these bytes
abbrev pub column_behind : ℕ → List ℕ → ℕ
column_behind column [] = column
column_behind column (x ∷ xs) = column_behind (column_after x column) xs

abbrev pub at : ℕ → Lexeme → Token
at line lexeme = record { line = line; lexeme = lexeme }

-- `rest n` are the tokens behind n bytes
abbrev pub met : ℕ → Front → (ℕ → List Token) → List Token
met line (gap n) rest = rest n
met line (token lexeme n) rest = at line lexeme ∷ rest n
met line (last lexeme) rest = at line lexeme ∷ []

-- The tokens from a line and column on, the first `skip` bytes belonging to the piece before. The last token, and
-- no other, is one of those that end a text.
unfoldable pub tokens_from : ℕ → ℕ → ℕ → List ℕ → List Token
tokens_from skip line column [] = at line finish ∷ []
tokens_from (suc skip) line column (x ∷ xs) = tokens_from skip (line_after x line) (column_after x column) xs
tokens_from zero line column (x ∷ xs) =
    met line (front column x xs) (λ n. tokens_from (n - 1) (line_after x line) (column_after x column) xs)

abbrev pub tokens_of : Text → List Token
tokens_of t = tokens_from 0 1 1 t

-- ---- what a quoted string says (RFC 7950, 6.1.3)

-- a carriage return and its line feed are one line break, and stand as a line feed
unfoldable pub joined_breaks : List ℕ → List ℕ
joined_breaks [] = []
joined_breaks (x ∷ xs) =
    if x == carriage_return && begins line_feed xs then joined_breaks xs else x ∷ joined_breaks xs

abbrev pub drop_blank : ℕ → List ℕ → List ℕ
drop_blank x rest = if is_blank x && begins line_feed rest then rest else x ∷ rest

-- without the spaces and tabs before each line break
unfoldable pub trimmed_ends : List ℕ → List ℕ
trimmed_ends [] = []
trimmed_ends (x ∷ xs) = drop_blank x (trimmed_ends xs)

-- Without the white space at the start of each line but the first, up to `width` columns of it; in the line at hand
-- `left` columns may still go. A tab that is met is eight spaces, and those past the width stay.
unfoldable pub stripped_starts : ℕ → ℕ → List ℕ → List ℕ
stripped_starts width left [] = []
stripped_starts width left (x ∷ xs) = if x == line_feed then line_feed ∷ stripped_starts width width xs
    else (if x == space && nat_lt 0 left then stripped_starts width (left - 1) xs
    else (if x == tab && nat_lt 0 left then replicate (8 - left) space ++ stripped_starts width (left - 8) xs
    else x ∷ stripped_starts width 0 xs))

-- what a backslash and this character stand for
abbrev pub escape : ℕ → Option ℕ
escape x = if x == 110 then Some line_feed
    else (if x == 116 then Some tab
    else (if x == double_quote || x == backslash then Some x else None))

-- `\n`, `\t`, `\"` and `\\` replaced
unfoldable pub unescaped : Bool → List ℕ → List ℕ
unescaped after_backslash [] = []
unescaped true (x ∷ xs) = option_map_or (λ y. y ∷ unescaped false xs) (escape x) (unescaped false xs)
unescaped false (x ∷ xs) = if x == backslash then unescaped true xs else x ∷ unescaped false xs

-- the line of the first backslash that another character follows
unfoldable pub bad_escape_line : Bool → ℕ → List ℕ → Option ℕ
bad_escape_line after_backslash line [] = None
bad_escape_line true line (x ∷ xs) =
    option_map_or (λ _. bad_escape_line false line xs) (escape x) (Some line)
bad_escape_line false line (x ∷ xs) = bad_escape_line (x == backslash) (line_after x line) xs

-- First the lines are stripped, then the escapes are replaced.
abbrev pub double_text : ℕ → List ℕ → Text
double_text column raw = unescaped false (stripped_starts column 0 (trimmed_ends (joined_breaks raw)))

-- A single-quoted string keeps each character; a line break in it is a line feed as well.
abbrev pub single_text : List ℕ → Text
single_text raw = joined_breaks raw

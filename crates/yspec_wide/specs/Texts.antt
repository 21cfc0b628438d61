-- Texts of YANG 1, as the change against those of YANG 1.1 (RFC 6020, 6.1.3; RFC 7950, 1.1): an unquoted argument may hold quotes behind
-- its first character, and between double quotes a backslash before another character than `n`, `t`, `"` and `\` is itself.
use Rattle.std.specs.Prelude.{ℕ, zero, suc, ◌-◌, ◌==◌, ◌&&◌, ◌||◌, Bool, true, false, not, List, [], ◌∷◌, take, length, codes, Option, Result, Ok, Err, if◌then◌else◌, nat_lt}
use Rattle.std.specs.Option.{option_map_or}
use Rattle.std.specs.Str.{chars, is_utf8}
use Rattle.std.specs.Str.Lossy.{utf8_valid_len}
use Rattle.yspec.specs.Forest.{Forest}
use Rattle.yspec.specs.text.Text.{Text, is_text, is_name, line_after, line_behind, forbidden_line, double_quote, single_quote, backslash}
use Rattle.yspec.specs.text.Token.{Lexeme, Token, word, double, semi, open_block, close_block, finish, Front, token, front, met, at, ends_word, column_after, escape}
use Rattle.yspec.specs.text.Statement.{Statement, Slip, slip, Row, argument, statement, statements, top_statement, text_limit, module_of}
use Rattle.yspec_wide.specs.Language.{Language, core, rfc, YangVersion, yang_1, yang_1_1, version_stated}

-- ---- where the next token stands

pub data Position : Type 0 where
  before_keyword : Position
  before_argument : Position
  behind_argument : Position

abbrev pub position_behind : Position → Lexeme → Position
position_behind position semi = before_keyword
position_behind position open_block = before_keyword
position_behind position close_block = before_keyword
position_behind before_keyword (word w) = before_argument
position_behind position lexeme = behind_argument

-- ---- unquoted arguments

-- what ends one: as of any word, quotes aside
abbrev pub is_quote : ℕ → Bool
is_quote x = x == double_quote || x == single_quote

abbrev pub argument_length : List ℕ → ℕ
argument_length [] = 0
argument_length (x ∷ xs) = if ends_word x xs && not (is_quote x) then 0 else suc (argument_length xs)

abbrev pub longer_word : ℕ → List ℕ → Front → Front
longer_word x xs (token (word w) n) = token (word (x ∷ take (argument_length xs) xs)) (suc (argument_length xs))
longer_word x xs other = other

-- ---- double-quoted strings

abbrev pub behind_backslash : ℕ → List ℕ → List ℕ
behind_backslash x rest = option_map_or (λ _. rest) (escape x) (backslash ∷ rest)

-- What stands between the quotes, with a backslash before another character written as two, which say one. So none is wrong,
-- and what a string says is as in YANG 1.1.
unfoldable pub mended : Bool → List ℕ → List ℕ
mended after_backslash [] = []
mended true (x ∷ xs) = behind_backslash x (x ∷ mended false xs)
mended false (x ∷ xs) = x ∷ mended (x == backslash) xs

abbrev pub read_in_1 : Lexeme → Lexeme
read_in_1 (double column raw) = double column (mended false raw)
read_in_1 lexeme = lexeme

-- ---- tokens

abbrev pub read_front : Front → Front
read_front (token lexeme n) = token (read_in_1 lexeme) n
read_front other = other

-- what stands at the front of a text, by where that is
abbrev pub front_of_1 : Position → ℕ → ℕ → List ℕ → Front
front_of_1 before_argument column x xs = read_front (longer_word x xs (front column x xs))
front_of_1 position column x xs = read_front (front column x xs)

abbrev pub behind_front : Position → Front → Position
behind_front position (token lexeme n) = position_behind position lexeme
behind_front position other = position

-- `rest` are the tokens behind so many bytes, from a position on
abbrev pub met_in_1 : Position → ℕ → Front → (Position → ℕ → List Token) → List Token
met_in_1 position line found rest = met line found (rest (behind_front position found))

-- as `tokens_from` cuts them, by where each stands
unfoldable pub tokens_in_1_from : Position → ℕ → ℕ → ℕ → List ℕ → List Token
tokens_in_1_from position skip line column [] = at line finish ∷ []
tokens_in_1_from position (suc skip) line column (x ∷ xs) =
    tokens_in_1_from position skip (line_after x line) (column_after x column) xs
tokens_in_1_from position zero line column (x ∷ xs) = met_in_1 position line (front_of_1 position column x xs)
    (λ next n. tokens_in_1_from next (n - 1) (line_after x line) (column_after x column) xs)

abbrev pub tokens_in_1 : Text → List Token
tokens_in_1 t = tokens_in_1_from before_keyword 0 1 1 t

-- ---- the version of a text: that of the first `yang-version` right below its top statement, as YANG 1 reads it, up to its
-- first slip

abbrev pub begins_body : Lexeme → Bool
begins_body semi = true
begins_body open_block = true
begins_body lexeme = false

abbrev pub is_body : List Token → Bool
is_body [] = false
is_body (t ∷ ts) = begins_body t.lexeme

abbrev pub version_by : Result (Option Text × List Token) Slip → YangVersion
version_by (Err s) = yang_1
version_by (Ok (text, ts)) = if is_body ts then version_stated text else yang_1

-- the statement right below the top one whose keyword stands in a line
abbrev pub statement_below : Text → ℕ → List Token → Result Row Slip
statement_below keyword line ts = statement (λ us. statements (length us) 2 us) 1 keyword line ts

abbrev pub version_behind : (List Token → YangVersion) → Result Row Slip → YangVersion
version_behind others (Err s) = yang_1
version_behind others (Ok read) = others read.1

abbrev pub version_at : Lexeme → (List Token → YangVersion) → ℕ → List Token → YangVersion
version_at (word w) others line ts = if is_text w (codes "yang-version") then version_by (argument ts)
    else version_behind others (statement_below w line ts)
version_at lexeme others line ts = yang_1

-- from one of the statements below the top one on; the first number is at least that of the tokens
unfoldable pub version_among : ℕ → List Token → YangVersion
version_among zero ts = yang_1
version_among (suc fuel) [] = yang_1
version_among (suc fuel) (t ∷ ts) = version_at t.lexeme (version_among fuel) t.line ts

abbrev pub version_in_block : Lexeme → List Token → YangVersion
version_in_block open_block ts = version_among (length ts) ts
version_in_block lexeme ts = yang_1

abbrev pub version_below : Result (Option Text × List Token) Slip → YangVersion
version_below (Err s) = yang_1
version_below (Ok (text, [])) = yang_1
version_below (Ok (text, t ∷ ts)) = version_in_block t.lexeme ts

abbrev pub version_at_top : Lexeme → List Token → YangVersion
version_at_top (word w) ts = if is_name w then version_below (argument ts) else yang_1
version_at_top lexeme ts = yang_1

abbrev pub version_of_tokens : List Token → YangVersion
version_of_tokens [] = yang_1
version_of_tokens (t ∷ ts) = version_at_top t.lexeme ts

abbrev pub version_of_text : Text → YangVersion
version_of_text t = version_of_tokens (tokens_in_1 t)

-- ---- the statement that a text spells

abbrev pub allowed_text_in_1 : Text → Result (Forest Statement) Slip
allowed_text_in_1 t = option_map_or (λ line. slip 2 line) (forbidden_line 1 (chars t)) (top_statement (tokens_in_1 t))

unfoldable pub module_in_1 : Text → Result (Forest Statement) Slip
module_in_1 t = if nat_lt text_limit (length t) then slip 7 1
    else (if is_utf8 t then allowed_text_in_1 t else slip 1 (line_behind 1 (take (utf8_valid_len t) t)))

abbrev pub module_by : YangVersion → Text → Result (Forest Statement) Slip
module_by yang_1 t = module_in_1 t
module_by yang_1_1 t = module_of t

-- whether each text is read by its own version
abbrev pub reads_versions : Language → Bool
reads_versions core = false
reads_versions (rfc wide) = true

abbrev pub module_in : Language → Text → Result (Forest Statement) Slip
module_in core t = module_of t
module_in (rfc wide) t = module_by (version_of_text t) t

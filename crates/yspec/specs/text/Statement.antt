-- The statements that a module's text spells, or the first thing that is wrong with it (RFC 7950, 6.3 and 14).
use Rattle.std.specs.Prelude.{ℕ, zero, suc, ◌+◌, Bool, true, false, List, [], ◌∷◌, ◌++◌, length, take, Option, Some, None, Result, Ok, Err, if◌then◌else◌, nat_lt}
use Rattle.std.specs.Option.{option_map_or}
use Rattle.std.specs.Str.{chars, is_utf8}
use Rattle.std.specs.Str.Lossy.{utf8_valid_len}
use Rattle.yspec.specs.Forest.{Forest, end, node, join}
pub use Rattle.yspec.specs.Results.{◌>>=◌}
use Rattle.yspec.specs.text.Text.{Text, is_text, is_name, plus, line_behind, forbidden_line}
use Rattle.yspec.specs.text.Token.{Lexeme, Token, word, single, double, semi, open_block, close_block, finish, unclosed_quote, unclosed_comment, tokens_of, bad_escape_line, double_text, single_text}

-- a statement without its substatements, which stand below it in a forest; the line is that of its keyword
pub record Statement : Type 0 where
  pub keyword : Text
  pub argument : Option Text
  pub line : ℕ

-- why a text isn't read: the number behind the `L`, and a line
pub record Slip : Type 0 where
  pub code : ℕ
  pub line : ℕ

abbrev pub slip : {A : Type 0} → ℕ → ℕ → Result A Slip
slip code line = Err (record { code = code; line = line })

-- what is wrong where a token stands that may not stand there
abbrev pub misplaced_code : Lexeme → ℕ
misplaced_code finish = 6
misplaced_code unclosed_quote = 3
misplaced_code unclosed_comment = 3
misplaced_code _ = 5

abbrev pub misplaced : {A : Type 0} → Token → Result A Slip
misplaced t = slip (misplaced_code t.lexeme) t.line

-- ---- arguments

abbrev pub is_quoted : Lexeme → Bool
is_quoted (single raw) = true
is_quoted (double column raw) = true
is_quoted unclosed_quote = true
is_quoted _ = false

abbrev pub begins_quoted : List Token → Bool
begins_quoted [] = false
begins_quoted (t ∷ ts) = is_quoted t.lexeme

abbrev pub is_plus : Lexeme → Bool
is_plus (word w) = is_text w (plus ∷ [])
is_plus _ = false

abbrev pub piece : ℕ → Lexeme → Result Text Slip
piece line (single raw) = Ok (single_text raw)
piece line (double column raw) =
    option_map_or (λ bad. slip 4 bad) (bad_escape_line false line raw) (Ok (double_text column raw))
piece line unclosed_quote = slip 3 line
piece line _ = Ok []

abbrev pub appended : Text → Text × List Token → Result (Text × List Token) Slip
appended text more = Ok (text ++ more.0, more.1)

abbrev pub after_piece : Text → Token → List Token → Result (Text × List Token) Slip → Result (Text × List Token) Slip
after_piece text t ts more = if is_plus t.lexeme then (if begins_quoted ts then more >>= appended text else slip 5 t.line)
    else Ok (text, t ∷ ts)

-- quoted strings with `+` between them, and what follows
unfoldable pub pieces : List Token → Result (Text × List Token) Slip
pieces [] = Ok ([], [])
pieces (first ∷ []) = piece first.line first.lexeme >>= (λ text. Ok (text, []))
pieces (first ∷ second ∷ ts) =
    piece first.line first.lexeme >>= (λ text. after_piece text second ts (pieces ts))

abbrev pub some_argument : Text × List Token → Result (Option Text × List Token) Slip
some_argument found = Ok (Some found.0, found.1)

abbrev pub argument_at : Lexeme → Token → List Token → Result (Option Text × List Token) Slip
argument_at (word w) t ts = Ok (Some w, ts)
argument_at lexeme t ts = if is_quoted lexeme then pieces (t ∷ ts) >>= some_argument else Ok (None, t ∷ ts)

-- the argument, where there is one, and what follows
abbrev pub argument : List Token → Result (Option Text × List Token) Slip
argument [] = Ok (None, [])
argument (t ∷ ts) = argument_at t.lexeme t ts

-- ---- statements

abbrev pub Row : Type 0
Row = Forest Statement × List Token

-- blocks may nest so deep
abbrev pub block_limit : ℕ
block_limit = 64

abbrev pub closed_at : Lexeme → Forest Statement → Token → List Token → Result Row Slip
closed_at close_block below t ts = Ok (below, ts)
closed_at lexeme below t ts = misplaced t

abbrev pub closed : Row → Result Row Slip
closed (below, []) = Ok (below, [])
closed (below, t ∷ ts) = closed_at t.lexeme below t ts

abbrev pub body_at : Lexeme → (List Token → Result Row Slip) → ℕ → Token → List Token → Result Row Slip
body_at semi inner level t ts = Ok (end, ts)
body_at open_block inner level t ts = if nat_lt level block_limit then inner ts >>= closed else slip 7 t.line
body_at lexeme inner level t ts = misplaced t

-- `;`, or a block; `inner` reads the statements of a block
abbrev pub body : (List Token → Result Row Slip) → ℕ → List Token → Result Row Slip
body inner level [] = Ok (end, [])
body inner level (t ∷ ts) = body_at t.lexeme inner level t ts

-- the statement whose keyword stands in a line, as a row of one
abbrev pub statement : (List Token → Result Row Slip) → ℕ → Text → ℕ → List Token → Result Row Slip
statement inner level keyword line ts = if is_name keyword
    then argument ts >>= (λ a. body inner level a.1 >>= (λ b.
    Ok (node (record { keyword = keyword; argument = a.0; line = line }) b.0 end, b.1)))
    else slip 8 line

abbrev pub in_row : Row → Row → Result Row Slip
in_row first rest = Ok (join first.0 rest.0, rest.1)

abbrev pub statements_at : Lexeme → (List Token → Result Row Slip) → (List Token → Result Row Slip) → ℕ → Token → List Token
    → Result Row Slip
statements_at (word w) inner others level t ts = statement inner level w t.line ts >>= (λ first. others first.1 >>= in_row first)
statements_at close_block inner others level t ts = Ok (end, t ∷ ts)
statements_at finish inner others level t ts = Ok (end, t ∷ ts)
statements_at lexeme inner others level t ts = misplaced t

-- the statements up to a `}` or the end of the text, `level` blocks being open; `fuel` is at least the number of tokens
unfoldable pub statements : ℕ → ℕ → List Token → Result Row Slip
statements zero level ts = Ok (end, ts)
statements (suc fuel) level [] = Ok (end, [])
statements (suc fuel) level (t ∷ ts) = statements_at t.lexeme (statements fuel (level + 1)) (statements fuel level) level t ts

-- ---- a module's text

abbrev pub ending_at : Lexeme → Forest Statement → Token → Result (Forest Statement) Slip
ending_at finish top t = Ok top
ending_at (word w) top t = slip 6 t.line
ending_at close_block top t = slip 6 t.line
ending_at lexeme top t = misplaced t

-- nothing may follow the top statement
abbrev pub ending : Row → Result (Forest Statement) Slip
ending (top, []) = Ok top
ending (top, t ∷ ts) = ending_at t.lexeme top t

abbrev pub top_at : Lexeme → ℕ → Token → List Token → Result (Forest Statement) Slip
top_at (word w) fuel t ts = statement (statements fuel 1) 0 w t.line ts >>= ending
top_at close_block fuel t ts = slip 6 t.line
top_at lexeme fuel t ts = misplaced t

-- the one statement that the tokens spell
abbrev pub top_statement : List Token → Result (Forest Statement) Slip
top_statement [] = Ok end
top_statement (t ∷ ts) = top_at t.lexeme (length ts) t ts

-- a text has at most so many bytes
abbrev pub text_limit : ℕ
text_limit = 4194304

abbrev pub allowed_text : Text → Result (Forest Statement) Slip
allowed_text t = option_map_or (λ line. slip 2 line) (forbidden_line 1 (chars t)) (top_statement (tokens_of t))

-- The statement that a text spells. Its length is judged first, then that it is UTF-8, then its characters, and then
-- the rest from left to right.
unfoldable pub module_of : Text → Result (Forest Statement) Slip
module_of t = if nat_lt text_limit (length t) then slip 7 1
    else (if is_utf8 t then allowed_text t else slip 1 (line_behind 1 (take (utf8_valid_len t) t)))

-- What a scan of a text gives (RFC 7950, 6.1 to 6.1.3): its tokens, each with its place, up to the first character, quote,
-- comment or escape that is wrong. Places count the bytes before them.
use Rattle.std.specs.Prelude.{ℕ, zero, suc, ◌+◌, ◌-◌, ◌==◌, ◌&&◌, Bool, true, false, List, [], ◌∷◌, ◌++◌, length, take, slice_range, min, Option, Some, None, option_map, Result, Ok, if◌then◌else◌, nat_lt}
use Rattle.std.specs.Char.{len_utf8}
use Rattle.std.specs.Option.{option_map_or}
use Rattle.std.specs.Str.{chars}
use Rattle.yspec.specs.text.Text.{Text, backslash, line_after, line_behind, is_allowed}
use Rattle.yspec.specs.text.Token.{Lexeme, Token, word, single, double, semi, open_block, close_block, finish, unclosed_quote, unclosed_comment, stray_end, Front, gap, token, last, front, column_after, at, escape}
use Rattle.yspec.specs.text.Statement.{Slip, slip}
use Rattle.yspec.specs.text.Spelling.{Place, behind, IsGap, IsToken, IsBroken}

-- ---- tokens with their places

pub record Piece : Type 0 where
  pub start : ℕ
  pub end : ℕ
  pub token : Token

abbrev pub piece_at : ℕ → ℕ → Token → Piece
piece_at start end t = record { start = start; end = end; token = t }

-- `rest n` are the pieces behind n bytes
abbrev pub pieces_with : ℕ → ℕ → Front → (ℕ → List Piece) → List Piece
pieces_with start line (gap n) rest = rest n
pieces_with start line (token lexeme n) rest = piece_at start (start + n) (at line lexeme) ∷ rest n
pieces_with start line (last lexeme) rest = piece_at start start (at line lexeme) ∷ []

-- The tokens from a place on, as `tokens_from` cuts them.
unfoldable pub pieces_from : ℕ → ℕ → ℕ → ℕ → List ℕ → List Piece
pieces_from skip start line column [] = piece_at start start (at line finish) ∷ []
pieces_from (suc skip) start line column (x ∷ xs) =
    pieces_from skip (start + 1) (line_after x line) (column_after x column) xs
pieces_from zero start line column (x ∷ xs) = pieces_with start line (front column x xs)
    (λ n. pieces_from (n - 1) (start + 1) (line_after x line) (column_after x column) xs)

abbrev pub pieces_of : Text → List Piece
pieces_of text = pieces_from 0 0 1 1 text

-- ---- what is wrong, and where

-- the first character that isn't allowed
abbrev pub forbidden_offset : ℕ → List ℕ → Option ℕ
forbidden_offset place [] = None
forbidden_offset place (c ∷ cs) = if is_allowed c cs then forbidden_offset (place + len_utf8 c) cs else Some place

-- the first backslash between double quotes that another character follows than `n`, `t`, `"` and `\`
unfoldable pub wrong_escape : Bool → ℕ → List ℕ → Option ℕ
wrong_escape after_backslash place [] = None
wrong_escape true place (x ∷ xs) =
    option_map_or (λ _. wrong_escape false (place + 1) xs) (escape x) (Some (place - 1))
wrong_escape false place (x ∷ xs) = wrong_escape (x == backslash) (place + 1) xs

-- the number behind the `L`, and a place
pub record Cause : Type 0 where
  pub code : ℕ
  pub place : ℕ

abbrev pub cause : ℕ → ℕ → Cause
cause code place = record { code = code; place = place }

-- in a token, or in what ends the text
abbrev pub cause_within : ℕ → Lexeme → Option Cause
cause_within start (double column raw) = option_map (λ place. cause 4 place) (wrong_escape false (start + 1) raw)
cause_within start unclosed_quote = Some (cause 3 start)
cause_within start unclosed_comment = Some (cause 3 start)
cause_within start stray_end = Some (cause 5 start)
cause_within start _ = None

-- A character that isn't allowed counts before the end of a token, and before what else is wrong in it.
abbrev pub first_cause : Option ℕ → ℕ → Option Cause → Option Cause
first_cause None end other = other
first_cause (Some place) end None = if nat_lt place end then Some (cause 2 place) else None
first_cause (Some place) end (Some other) =
    if nat_lt place end && nat_lt place other.place then Some (cause 2 place) else Some other

-- ---- what a scan gives

pub data TokenKind : Type 0 where
  unquoted : TokenKind
  single_quoted : TokenKind
  double_quoted : TokenKind
  semicolon : TokenKind
  opening : TokenKind
  closing : TokenKind

-- none for what ends the text
abbrev pub kind_of : Lexeme → Option TokenKind
kind_of (word w) = Some unquoted
kind_of (single raw) = Some single_quoted
kind_of (double column raw) = Some double_quoted
kind_of semi = Some semicolon
kind_of open_block = Some opening
kind_of close_block = Some closing
kind_of _ = None

-- a token with its quotes
pub record Scanned : Type 0 where
  pub kind : TokenKind
  pub start : ℕ
  pub end : ℕ
  pub text : Text

-- What is told of a cause: its number, and the line of its place. A line past the last number of 32 bits is told as that.
abbrev pub told_of : Text → Cause → Result Scanned Slip
told_of text c = slip c.code (min 4294967295 (line_behind 1 (take c.place text)))

abbrev pub scanned : Text → Piece → TokenKind → Scanned
scanned text p kind =
    record { kind = kind; start = p.start; end = p.end; text = slice_range text p.start p.end }

-- what comes of a piece, and of those behind it where it is a token with nothing wrong
abbrev pub given : Text → Option ℕ → Piece → List (Result Scanned Slip) → List (Result Scanned Slip)
given text forbidden p rest = option_map_or (λ c. told_of text c ∷ [])
    (first_cause forbidden p.end (cause_within p.start p.token.lexeme))
    (option_map_or (λ kind. Ok (scanned text p kind) ∷ rest) (kind_of p.token.lexeme) [])

unfoldable pub given_of : Text → Option ℕ → List Piece → List (Result Scanned Slip)
given_of text forbidden [] = []
given_of text forbidden (p ∷ ps) = given text forbidden p (given_of text forbidden ps)

abbrev pub scan_of : Text → List (Result Scanned Slip)
scan_of text = given_of text (forbidden_offset 0 (chars text)) (pieces_of text)

-- ---- what the pieces are, by cases

-- How a text is cut from a place on, `start` bytes standing before it: only gaps stand between tokens, and each token
-- stands where the last piece ended.
pub data Scan : ℕ → Place → Text → List Piece → Type 0 where
  at_end : {start : ℕ} {place : Place} → Scan start place [] (piece_at start start (at place.line finish) ∷ [])
  broken : {start : ℕ} {place : Place} {text : Text} {lexeme : Lexeme} → IsBroken text lexeme
      → Scan start place text (piece_at start start (at place.line lexeme) ∷ [])
  after_gap : {start : ℕ} {place : Place} {bytes rest : Text} {ps : List Piece} → IsGap bytes rest
      → Scan (start + length bytes) (behind place bytes) rest ps → Scan start place (bytes ++ rest) ps
  after_token : {start : ℕ} {place : Place} {lexeme : Lexeme} {bytes rest : Text} {ps : List Piece}
      → IsToken place.column lexeme bytes rest → Scan (start + length bytes) (behind place bytes) rest ps
      → Scan start place (bytes ++ rest) (piece_at start (start + length bytes) (at place.line lexeme) ∷ ps)

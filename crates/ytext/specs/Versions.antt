-- How the tokens of a text are cut in a version of YANG (RFC 6020, 6.1.3): by where the next one stands, in a text of YANG 1, and
-- anywhere alike, in one of YANG 1.1.
use Rattle.std.specs.Prelude.{ℕ, zero, suc, ◌+◌, ◌-◌, ◌&&◌, Bool, true, false, not, List, [], ◌∷◌, if◌then◌else◌}
use Rattle.yspec.specs.text.Text.{Text, line_after}
use Rattle.yspec.specs.text.Token.{Lexeme, Token, word, semi, open_block, close_block, finish, Front, token, front, at, ends_word, word_length, column_after, tokens_of}
use Rattle.yspec.specs.text.Scanning.{Piece, piece_at, pieces_with}
use Rattle.yspec_wide.specs.Texts.{before_keyword, before_argument, behind_argument, is_quote, argument_length, mended, front_of_1, tokens_in_1}
use Rattle.ytext.specs.declared.lexeme.Standing.{Standing}
use Rattle.ytext.specs.declared.lexeme.Standing.TheVariants.{Anywhere, BeforeKeyword, BeforeArgument, BehindArgument}

-- ---- words, and what stands between double quotes

-- an argument of YANG 1 that isn't quoted keeps quotes
abbrev pub ends_run : Bool → ℕ → List ℕ → Bool
ends_run false x xs = ends_word x xs
ends_run true x xs = ends_word x xs && not (is_quote x)

abbrev pub run_length : Bool → List ℕ → ℕ
run_length false xs = word_length xs
run_length true xs = argument_length xs

abbrev pub raw_in : Bool → List ℕ → List ℕ
raw_in false raw = raw
raw_in true raw = mended false raw

-- ---- where the next token stands

abbrev pub first_standing : Bool → Standing
first_standing is_yang_1 = if is_yang_1 then BeforeKeyword else Anywhere

abbrev pub later_standing : Standing → Lexeme → Standing
later_standing behind_word semi = BeforeKeyword
later_standing behind_word open_block = BeforeKeyword
later_standing behind_word close_block = BeforeKeyword
later_standing behind_word (word w) = behind_word
later_standing behind_word lexeme = BehindArgument

abbrev pub standing_behind : Standing → Lexeme → Standing
standing_behind Anywhere lexeme = Anywhere
standing_behind BeforeKeyword lexeme = later_standing BeforeArgument lexeme
standing_behind BeforeArgument lexeme = later_standing BehindArgument lexeme
standing_behind BehindArgument lexeme = later_standing BehindArgument lexeme

abbrev pub behind_front : Standing → Front → Standing
behind_front standing (token lexeme n) = standing_behind standing lexeme
behind_front standing other = standing

abbrev pub front_is_word : Front → Bool
front_is_word (token (word w) n) = true
front_is_word other = false

-- ---- tokens with their places

abbrev pub front_at : Standing → ℕ → ℕ → List ℕ → Front
front_at Anywhere column x xs = front column x xs
front_at BeforeKeyword column x xs = front_of_1 before_keyword column x xs
front_at BeforeArgument column x xs = front_of_1 before_argument column x xs
front_at BehindArgument column x xs = front_of_1 behind_argument column x xs

-- `rest` are the pieces behind so many bytes, from a standing on
abbrev pub pieces_met : Standing → ℕ → ℕ → Front → (Standing → ℕ → List Piece) → List Piece
pieces_met standing start line found rest = pieces_with start line found (rest (behind_front standing found))

unfoldable pub pieces_by : Standing → ℕ → ℕ → ℕ → ℕ → List ℕ → List Piece
pieces_by standing skip start line column [] = piece_at start start (at line finish) ∷ []
pieces_by standing (suc skip) start line column (x ∷ xs) =
    pieces_by standing skip (start + 1) (line_after x line) (column_after x column) xs
pieces_by standing zero start line column (x ∷ xs) = pieces_met standing start line (front_at standing column x xs)
    (λ next n. pieces_by next (n - 1) (start + 1) (line_after x line) (column_after x column) xs)

-- the tokens of a text of YANG 1, or of YANG 1.1
abbrev pub tokens_in : Bool → Text → List Token
tokens_in false t = tokens_of t
tokens_in true t = tokens_in_1 t

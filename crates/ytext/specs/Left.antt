-- What is left of a text's tokens at a place.
use Rattle.std.specs.Prelude.{ℕ, ◌+◌, ◌-◌, List, [], ◌∷◌, drop, map, slice_range, slice_index, if◌then◌else◌}
use Rattle.yspec.specs.text.Token.{Token, column_behind, at, Front, front}
use Rattle.yspec.specs.text.Scanning.{Piece, piece_at}
use Rattle.ytext.specs.Versions.{standing_behind, front_at, pieces_by}
use Rattle.ytext.specs.declared.lexeme.Standing.{Standing}
use Rattle.ytext.specs.View.{lexeme_of, ends_text}
use Rattle.ytext.specs.declared.cursor.Cursor.{Cursor}
use Rattle.ytext.specs.declared.cursor.Found.{Found}
use Rattle.ytext.specs.declared.cursor.Lexed.{Lexed}

abbrev pub column_at : List ℕ → ℕ → ℕ → ℕ
column_at text line_start place = column_behind 1 (slice_range text line_start place)

abbrev pub column_of : Cursor → ℕ
column_of c = column_at c.text.now c.line_start c.at

-- the tokens with their places from a cursor on, the first so many bytes belonging to a piece before, behind which the next one
-- stands so
abbrev pub pieces_after : Standing → ℕ → Cursor → List Piece
pieces_after standing skip c = pieces_by standing skip c.at c.line (column_of c) (drop c.at c.text.now)

abbrev pub pieces_behind : ℕ → Cursor → List Piece
pieces_behind skip c = pieces_after c.standing skip c

abbrev pub pieces_left : Cursor → List Piece
pieces_left c = pieces_behind 0 c

-- the tokens alone
abbrev pub left : Cursor → List Token
left c = map (λ p. p.token) (pieces_left c)

abbrev pub piece_of : Found → Piece
piece_of f = piece_at f.cursor.at f.end (at f.cursor.line (lexeme_of f.lexeme))

abbrev pub behind_found : Found → List Piece
behind_found f = pieces_after (standing_behind f.cursor.standing (lexeme_of f.lexeme)) (f.end - f.cursor.at) f.cursor

-- what is found, and what is behind it where it isn't the last
abbrev pub with_piece : Found → List Piece
with_piece f = piece_of f ∷ (if ends_text f.lexeme then [] else behind_found f)

abbrev pub token_of : Lexed → Token
token_of t = at t.line (lexeme_of t.lexeme)

-- a token, and those behind it where it isn't the last
abbrev pub with_token : Lexed → Cursor → List Token
with_token t c = token_of t ∷ (if ends_text t.lexeme then [] else left c)

-- what stands at a cursor in YANG 1.1, and in the version of its text
abbrev pub stands_plainly : Cursor → Front
stands_plainly c = front (column_of c) (slice_index c.text.now c.at) (drop (c.at + 1) c.text.now)

abbrev pub stands : Cursor → Front
stands c = front_at c.standing (column_of c) (slice_index c.text.now c.at) (drop (c.at + 1) c.text.now)

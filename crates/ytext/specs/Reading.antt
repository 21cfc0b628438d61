-- The tokens ahead of a reader, and what is read of them.
use Rattle.std.specs.Prelude.{ℕ, ◌+◌, ◌-◌, List, [], ◌∷◌, ◌++◌, length, Result, Ok, if◌then◌else◌}
use Rattle.yspec.specs.text.Text.{Text}
use Rattle.yspec.specs.text.Token.{Token}
use Rattle.yspec.specs.text.Statement.{Slip, ◌>>=◌, piece, Row, statements, closed}
use Rattle.ytext.specs.View.{ends_text}
use Rattle.ytext.specs.Left.{with_token, token_of, left}
use Rattle.ytext.specs.declared.reader.Reader.{Reader}

-- the bytes behind the token at hand, and the token itself where it isn't the last
abbrev pub ahead : Reader → ℕ
ahead r = (length r.cursor.text.now - r.cursor.at) + (if ends_text r.token.lexeme then 0 else 1)

abbrev pub first_of : Reader → Token
first_of r = token_of r.token

abbrev pub rest_of : Reader → List Token
rest_of r = if ends_text r.token.lexeme then [] else left r.cursor

-- the token at hand and those behind it
abbrev pub tokens_ahead : Reader → List Token
tokens_ahead r = with_token r.token r.cursor

-- a text behind another one
abbrev pub added : Text → Result Text Slip → Result Text Slip
added before read = read >>= (λ text. Ok (before ++ text))

abbrev pub behind_piece : Text → List Token → Text → Result (Text × List Token) Slip
behind_piece before ts text = Ok (before ++ text, ts)

-- a quoted string's text behind another text, and what follows it
abbrev pub piece_behind : Text → List Token → Result (Text × List Token) Slip
piece_behind before [] = Ok (before, [])
piece_behind before (t ∷ ts) = piece t.line t.lexeme >>= behind_piece before ts

-- the statements of a row, so many blocks being open
abbrev pub rows : ℕ → List Token → Result Row Slip
rows level ts = statements (length ts) level ts

-- the statements of a block and its `}`
abbrev pub block_of : ℕ → List Token → Result Row Slip
block_of level ts = rows level ts >>= closed

-- Words for worked examples of module text.
use Rattle.std.specs.Prelude.{ℕ, codes, Some, Result, Ok}
use Rattle.yspec.specs.Forest.{Forest, end, node}
use Rattle.yspec.specs.text.Text.{Text}
use Rattle.yspec.specs.text.Statement.{Statement, Slip}
use Rattle.yspec.specs.text.Scanning.{TokenKind, Scanned}

-- one statement `module` in the first line, with this argument and nothing below it
abbrev pub with_argument : Text → Result (Forest Statement) Slip
with_argument text = Ok (node (record { keyword = codes "module"; argument = Some text; line = 1 }) end end)

-- a token that stands between two places
abbrev pub token_of : TokenKind → ℕ → ℕ → Text → Result Scanned Slip
token_of kind first behind text = Ok (record { kind = kind; start = first; end = behind; text = text })

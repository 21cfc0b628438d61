-- A walk over the tokens of a module's text, up to the first that can't stand where it does (RFC 7950, 6.1 to 6.3): what is due, which
-- blocks are open, and which of them looks as if it weren't closed.
use Rattle.std.specs.Prelude.{ℕ, suc, ◌==◌, ◌&&◌, ◌||◌, Bool, true, false, List, [], ◌∷◌, codes, drop, nat_le, take, Option, Some, None, option_and_then, option_map, Result, Ok, Err, if◌then◌else◌}
use Rattle.std.specs.Option.{option_map_or}
use Rattle.yspec.specs.Forest.{first_of}
use Rattle.yspec.specs.text.Text.{Text, is_blank, is_text, line_feed}
use Rattle.yspec.specs.text.Statement.{Slip}
use Rattle.yspec.specs.text.Scanning.{TokenKind, unquoted, single_quoted, double_quoted, semicolon, opening, closing, Scanned, scan_of}

-- ---- what is due

pub data Due : Type 0 where
  -- a keyword, or the `}` of a block
  a_keyword : Due
  -- an argument, `;` or `{`
  an_argument : Due
  -- `;` or `{`
  a_body : Due
  -- `+`, `;` or `{`
  a_plus : Due
  -- a quoted string behind `+`
  a_string : Due
  -- nothing more
  the_end : Due

abbrev pub ends_statement : TokenKind → Bool
ends_statement semicolon = true
ends_statement opening = true
ends_statement _ = false

abbrev pub is_string : TokenKind → Bool
is_string single_quoted = true
is_string double_quoted = true
is_string _ = false

abbrev pub is_word : TokenKind → Bool
is_word unquoted = true
is_word _ = false

abbrev pub is_closing : TokenKind → Bool
is_closing closing = true
is_closing _ = false

-- whether a token of a kind may stand there, given whether it is `+`, and whether a block is blocks
abbrev pub may_stand : Bool → Bool → Due → TokenKind → Bool
may_stand is_plus is_open a_keyword kind = is_word kind || (is_closing kind && is_open)
may_stand is_plus is_open an_argument kind = is_word kind || (is_string kind || ends_statement kind)
may_stand is_plus is_open a_body kind = ends_statement kind
may_stand is_plus is_open a_plus kind = ends_statement kind || (is_word kind && is_plus)
may_stand is_plus is_open a_string kind = is_string kind
may_stand is_plus is_open the_end kind = false

-- what is due behind a word
abbrev pub due_behind : Due → Due
due_behind a_keyword = an_argument
due_behind a_plus = a_string
due_behind _ = a_body

-- ---- where statements begin

-- how far what follows is indented where it is the first of its line, behind one more byte
abbrev pub indent_after : Option ℕ → ℕ → Option ℕ
indent_after indent x = if x == line_feed then Some 0 else (if is_blank x then option_map suc indent else None)

abbrev pub indent_behind : Option ℕ → Text → Option ℕ
indent_behind indent [] = indent
indent_behind indent (x ∷ xs) = indent_behind (indent_after indent x) xs

-- what stands in a text between two places
abbrev pub between : Text → ℕ → ℕ → Text
between text from to = drop from (take to text)

pub record Beginning : Type 0 where
  pub start : ℕ
  pub indent : Option ℕ

-- of a token that begins at a place, behind one that begins at an earlier one; where the text begins, a line does
abbrev pub beginning_at : Text → ℕ → ℕ → Beginning
beginning_at text last start = record { start = start; indent = indent_behind (Some 0) (between text last start) }

abbrev pub is_no_deeper : Beginning → Beginning → Bool
is_no_deeper outer inner = option_map_or (λ i. option_map_or (λ o. nat_le i o) outer.indent false) inner.indent false

-- a block whose statement is indented as far as one that begins in it, or farther, looks as if it weren't closed
pub record Doubt : Type 0 where
  pub outer : Beginning
  pub inner : Beginning

abbrev pub innermost : List Beginning → Option Beginning
innermost [] = None
innermost (b ∷ blocks) = Some b

abbrev pub doubt_between : Beginning → Beginning → Option Doubt
doubt_between inner outer = if is_no_deeper outer inner then Some (record { outer = outer; inner = inner }) else None

abbrev pub doubt_of : List Beginning → Beginning → Option Doubt
doubt_of blocks inner = option_and_then (doubt_between inner) (innermost blocks)

-- ---- the walk

pub record Walk : Type 0 where
  pub due : Due
  -- the statements of the blocks that are open, innermost first
  pub blocks : List Beginning
  -- the statement that was begun last
  pub statement : Beginning
  -- where the last token begins
  pub last : ℕ
  -- the first block that looks as if it weren't closed
  pub doubt : Option Doubt

abbrev pub start : Walk
start = record { due = a_keyword; blocks = []; statement = record { start = 0; indent = None }; last = 0; doubt = None }

abbrev pub is_any_open : List Beginning → Bool
is_any_open [] = false
is_any_open (b ∷ blocks) = true

abbrev pub fits : Walk → Scanned → Bool
fits w t = may_stand (is_text t.text (codes "+")) (is_any_open w.blocks) w.due t.kind

-- behind a statement
abbrev pub ended : Walk → Walk
ended w = record w { due = if is_any_open w.blocks then a_keyword else the_end }

abbrev pub closed : List Beginning → List Beginning
closed [] = []
closed (b ∷ blocks) = blocks

abbrev pub begun : Walk → Beginning → Walk
begun w b = record w { due = an_argument; statement = b; doubt = first_of w.doubt (doubt_of w.blocks b) }

abbrev pub is_at_keyword : Due → Bool
is_at_keyword a_keyword = true
is_at_keyword _ = false

abbrev pub behind_word : Text → Walk → ℕ → Walk
behind_word text w at = if is_at_keyword w.due then begun w (beginning_at text w.last at) else record w { due = due_behind w.due }

-- behind a token of a kind that begins at a place
abbrev pub behind : Text → Walk → ℕ → TokenKind → Walk
behind text w at unquoted = behind_word text w at
behind text w at single_quoted = record w { due = a_plus }
behind text w at double_quoted = record w { due = a_plus }
behind text w at semicolon = ended w
behind text w at opening = record w { due = a_keyword; blocks = w.statement ∷ w.blocks }
behind text w at closing = ended (record w { blocks = closed w.blocks })

abbrev pub step : Text → Walk → Scanned → Walk
step text w t = record (behind text w t.start t.kind) { last = t.start }

-- where a walk ends: at a token that can't stand there, at the end of the tokens, or where the text has none
pub data Stop : Type 0 where
  at_token : Walk → Scanned → Stop
  at_end : Walk → Stop
  elsewhere : Stop

unfoldable pub walk_from : Text → Walk → List (Result Scanned Slip) → Stop
walk_from text w [] = at_end w
walk_from text w (Ok t ∷ rest) = if fits w t then walk_from text (step text w t) rest else at_token w t
walk_from text w (Err s ∷ rest) = elsewhere

abbrev pub stop_of : Text → Stop
stop_of text = walk_from text start (scan_of text)

-- What is wrong with a text: each cause of a refusal in the order of the text (RFC 7950, 6.1 to 6.3), and the one that
-- is told.
use Rattle.std.specs.Prelude.{◌≡◌, ◌⊎◌, ℕ, zero, suc, ◌==◌, ◌&&◌, ◌||◌, Bool, true, false, not, List, [], ◌∷◌, ◌++◌, length, take, Option, Some, None, is_some, if◌then◌else◌, nat_lt}
use Rattle.std.specs.Option.{option_map_or}
use Rattle.std.specs.Str.{chars, is_utf8}
use Rattle.std.specs.Str.Lossy.{utf8_valid_len}
use Rattle.yspec.specs.Forest.{Forest}
use Rattle.yspec.specs.text.Text.{Text, is_name, backslash, line_after, line_behind, forbidden_line}
use Rattle.yspec.specs.text.Token.{Lexeme, Token, word, single, double, semi, open_block, close_block, finish, unclosed_quote, unclosed_comment, tokens_of, escape}
use Rattle.yspec.specs.text.Statement.{Statement, Slip, is_quoted, begins_quoted, is_plus, block_limit, text_limit}
use Rattle.yspec.specs.text.Spelling.{TokensSpell}

-- Where in a statement a token stands; the number is that of the blocks that are open.
pub data State : Type 0 where
  at_keyword : ℕ → State
  behind_keyword : ℕ → State
  behind_word : ℕ → State
  behind_quoted : ℕ → State
  behind_plus : ℕ → State
  behind_top : State

abbrev pub open_blocks : State → ℕ
open_blocks (at_keyword level) = level
open_blocks (behind_keyword level) = level
open_blocks (behind_word level) = level
open_blocks (behind_quoted level) = level
open_blocks (behind_plus level) = level
open_blocks behind_top = 0

-- behind a statement, and behind the `}` of a block that is one of so many
abbrev pub behind_statement : ℕ → State
behind_statement zero = behind_top
behind_statement (suc level) = at_keyword (suc level)

abbrev pub behind_block : ℕ → State
behind_block zero = behind_top
behind_block (suc level) = behind_statement level

-- where the next token stands
abbrev pub next : State → Lexeme → State
next (at_keyword level) (word w) = behind_keyword level
next (behind_keyword level) (word w) = behind_word level
next (behind_quoted level) (word w) = behind_plus level
next state (single raw) = behind_quoted (open_blocks state)
next state (double column raw) = behind_quoted (open_blocks state)
next state semi = behind_statement (open_blocks state)
next state open_block = at_keyword (suc (open_blocks state))
next state close_block = behind_block (open_blocks state)
next state _ = state

-- ---- the causes at a token, as though nothing before it were wrong

abbrev is_word : Lexeme → Bool
is_word (word w) = true
is_word _ = false

abbrev is_body : Lexeme → Bool
is_body semi = true
is_body open_block = true
is_body _ = false

abbrev is_open : Lexeme → Bool
is_open open_block = true
is_open _ = false

abbrev is_close : Lexeme → Bool
is_close close_block = true
is_close _ = false

abbrev is_finish : Lexeme → Bool
is_finish finish = true
is_finish _ = false

-- L3: a quote or comment that isn't closed
abbrev pub is_unclosed : Lexeme → Bool
is_unclosed unclosed_quote = true
is_unclosed unclosed_comment = true
is_unclosed _ = false

-- Which tokens may stand where (any other is L5), by the grammar of a statement. The end of the text and a comment may stand anywhere, and
-- what comes behind the top statement is judged by itself.
abbrev pub fits : State → Lexeme → List Token → Bool
fits state finish following = true
fits state unclosed_comment following = true
fits (at_keyword level) lexeme following = is_word lexeme || is_close lexeme
fits (behind_keyword level) lexeme following = is_word lexeme || (is_quoted lexeme || is_body lexeme)
fits (behind_word level) lexeme following = is_body lexeme
fits (behind_quoted level) lexeme following = (is_plus lexeme && begins_quoted following) || is_body lexeme
fits (behind_plus level) lexeme following = is_quoted lexeme
fits behind_top lexeme following = is_word lexeme || is_close lexeme

-- L6: the text isn't one statement: a `}` closes nothing, a second one begins, or the text ends before the first does
abbrev pub is_too_many_or_few : State → Lexeme → Bool
is_too_many_or_few behind_top lexeme = is_word lexeme || is_close lexeme
is_too_many_or_few (at_keyword zero) lexeme = is_close lexeme || is_finish lexeme
is_too_many_or_few _ lexeme = is_finish lexeme

-- L7: a block that stands in as many others as may be open
abbrev pub is_too_deep : State → Lexeme → Bool
is_too_deep (at_keyword level) lexeme = false
is_too_deep state lexeme = is_open lexeme && not (nat_lt (open_blocks state) block_limit)

-- L8: a keyword that isn't formed as one
abbrev pub is_unformed : State → Lexeme → Bool
is_unformed (at_keyword level) (word w) = not (is_name w)
is_unformed behind_top (word w) = not (is_name w)
is_unformed _ _ = false

abbrev pub cause : Bool → ℕ → ℕ → List Slip
cause is_one code line = if is_one then record { code = code; line = line } ∷ [] else []

-- L4: each backslash between double quotes that another character follows
unfoldable pub wrong_escapes : Bool → ℕ → Text → List Slip
wrong_escapes after_backslash line [] = []
wrong_escapes true line (x ∷ xs) = cause (not (is_some (escape x))) 4 line ++ wrong_escapes false (line_after x line) xs
wrong_escapes false line (x ∷ xs) = wrong_escapes (x == backslash) (line_after x line) xs

abbrev pub slips_within : ℕ → Lexeme → List Slip
slips_within line (double column raw) = wrong_escapes false line raw
slips_within line _ = []

-- at a token, by number, and then within it
abbrev pub slips_at : State → Token → List Token → List Slip
slips_at state t following = cause (is_unclosed t.lexeme) 3 t.line
    ++ (cause (not (fits state t.lexeme following)) 5 t.line
    ++ (cause (is_too_many_or_few state t.lexeme) 6 t.line
    ++ (cause (is_too_deep state t.lexeme) 7 t.line
    ++ (cause (is_unformed state t.lexeme) 8 t.line
    ++ slips_within t.line t.lexeme))))

-- the state behind a token, before others; a token that doesn't fit is passed over
abbrev pub state_behind : State → Token → List Token → State
state_behind state t following = if fits state t.lexeme following then next state t.lexeme else state

-- the state behind some tokens, before others
abbrev pub state_after : State → List Token → List Token → State
state_after state [] following = state
state_after state (t ∷ ts) following = state_after (state_behind state t (ts ++ following)) ts following

-- from a state on
unfoldable pub slips_from : State → List Token → List Slip
slips_from state [] = []
slips_from state (t ∷ ts) = slips_at state t ts ++ slips_from (state_behind state t ts) ts

abbrev pub slips : Text → List Slip
slips text = slips_from (at_keyword 0) (tokens_of text)

-- ---- what is told

abbrev pub first : List Slip → Option Slip
first [] = None
first (s ∷ rest) = Some s

abbrev wrong : ℕ → ℕ → Option Slip
wrong code line = Some (record { code = code; line = line })

-- A text that is too long is told as that, else one that isn't UTF-8, else its first character that isn't allowed, and
-- else its first slip.
unfoldable pub told_slip : Text → Option Slip
told_slip text = if nat_lt text_limit (length text) then wrong 7 1
    else (if not (is_utf8 text) then wrong 1 (line_behind 1 (take (utf8_valid_len text) text))
    else option_map_or (λ line. wrong 2 line) (forbidden_line 1 (chars text)) (first (slips text)))

-- ---- what the place of a slip says

-- With some others behind them these tokens spell a statement.
abbrev pub IsBeginning : List Token → Type 0
IsBeginning before = (more : List Token) × (top : Forest Statement) × TokensSpell (before ++ more) top

-- The token of the first slip: what stands before it is right so far, and it isn't, whatever follows it; of `+` it
-- counts whether a quoted string follows. The slip is the first of the causes at that token, where those before it have
-- led: so its code and its line are said. A wrong escape bears the line of its backslash, and each other slip the token's.
pub record IsFirstWrong (tokens : List Token) (slip : Slip) : Type 0 where
  pub before : List Token
  pub token : Token
  pub following : List Token
  pub place : tokens ≡ before ++ (token ∷ following)
  pub right_before : IsBeginning before
  pub wrong : (more : List Token) (top : Forest Statement) → begins_quoted more ≡ begins_quoted following
      → TokensSpell (before ++ (token ∷ more)) top → ⊥
  pub cause : first (slips_at (state_after (at_keyword 0) before (token ∷ following)) token following) ≡ Some slip
  pub line : (slip.line ≡ token.line) ⊎ (slip.code ≡ 4)

-- Which statement a text spells, by cases (RFC 7950, 6.1 to 6.3): how a text is cut into tokens, with gaps of white space
-- and comments between them, and what statements the tokens spell. Each relation has what it speaks of first, and then
-- what follows it.
use Rattle.std.specs.Prelude.{◌≡◌, ℕ, ◌+◌, ◌<◌, ◌≤◌, ◌==◌, ◌&&◌, true, false, List, [], ◌∷◌, ◌++◌, length, Option, Some, None}
use Rattle.std.specs.Str.{chars, is_utf8}
use Rattle.yspec.specs.Forest.{Forest, end, node}
use Rattle.yspec.specs.text.Text.{Text, begins, is_white, is_allowed, is_name, line_after, line_feed, double_quote, plus, single_quote, star, slash, semicolon, backslash, open_brace, close_brace}
use Rattle.yspec.specs.text.Token.{Lexeme, Token, word, single, double, semi, open_block, close_block, finish, unclosed_quote, unclosed_comment, stray_end, at, ends_word, column_after, bad_escape_line, double_text, single_text}
use Rattle.yspec.specs.text.Statement.{Statement, text_limit, block_limit}

-- ---- places in a text

pub record Place : Type 0 where
  pub line : ℕ
  pub column : ℕ

abbrev pub start : Place
start = record { line = 1; column = 1 }

abbrev pub past : ℕ → Place → Place
past x place = record { line = line_after x place.line; column = column_after x place.column }

-- the place behind these bytes
abbrev pub behind : Place → Text → Place
behind place [] = place
behind place (x ∷ xs) = behind (past x place) xs

-- ---- gaps: white space and comments

-- a byte stands nowhere in these
abbrev pub HasNo : ℕ → Text → Type 0
HasNo x [] = Unit
HasNo x (y ∷ ys) = ((y == x) ≡ false) × HasNo x ys

-- no `*/` stands in these bytes
abbrev pub HasNoCommentEnd : Text → Type 0
HasNoCommentEnd [] = Unit
HasNoCommentEnd (x ∷ xs) = ((x == star && begins slash xs) ≡ false) × HasNoCommentEnd xs

abbrev pub EndsLine : Text → Type 0
EndsLine [] = Unit
EndsLine (x ∷ xs) = (x == line_feed) ≡ true

-- A piece of a gap (RFC 7950, 6.1.1): a space, tab or part of a line break; `//` with the rest of its line; `/*` up
-- to the nearest `*/`.
pub data IsGap : Text → Text → Type 0 where
  white_space : {x : ℕ} {rest : Text} → is_white x ≡ true → IsGap (x ∷ []) rest
  line_comment : {c rest : Text} → HasNo line_feed c → EndsLine rest → IsGap (slash ∷ slash ∷ c) rest
  comment : (c : Text) {rest : Text} → HasNoCommentEnd c → IsGap (slash ∷ star ∷ (c ++ (star ∷ slash ∷ []))) rest

-- ---- tokens

-- No byte of a word ends it (RFC 7950, 6.1.3), and what follows does, so that a word takes all that it can.
abbrev pub IsWord : Text → Text → Type 0
IsWord [] [] = Unit
IsWord [] (y ∷ ys) = ends_word y ys ≡ true
IsWord (x ∷ xs) rest = (ends_word x (xs ++ rest) ≡ false) × IsWord xs rest

-- What stands between double quotes: no double quote but behind a backslash, which takes the character after it along.
pub data InDoubleQuotes : Text → Type 0 where
  nothing : InDoubleQuotes []
  plain : {x : ℕ} {raw : Text} → (x == double_quote) ≡ false → (x == backslash) ≡ false → InDoubleQuotes raw
      → InDoubleQuotes (x ∷ raw)
  escaped : {x : ℕ} {raw : Text} → InDoubleQuotes raw → InDoubleQuotes (backslash ∷ x ∷ raw)

-- A token that begins at a column, and its bytes (RFC 7950, 6.1.2).
pub data IsToken : ℕ → Lexeme → Text → Text → Type 0 where
  unquoted : {column x : ℕ} {w rest : Text} → IsWord (x ∷ w) rest → IsToken column (word (x ∷ w)) (x ∷ w) rest
  single_quoted : {column : ℕ} {raw rest : Text} → HasNo single_quote raw
      → IsToken column (single raw) (single_quote ∷ (raw ++ (single_quote ∷ []))) rest
  double_quoted : {column : ℕ} {raw rest : Text} → InDoubleQuotes raw
      → IsToken column (double column raw) (double_quote ∷ (raw ++ (double_quote ∷ []))) rest
  ends : {column : ℕ} {rest : Text} → IsToken column semi (semicolon ∷ []) rest
  opens : {column : ℕ} {rest : Text} → IsToken column open_block (open_brace ∷ []) rest
  closes : {column : ℕ} {rest : Text} → IsToken column close_block (close_brace ∷ []) rest

-- What no token begins with: a quote or a comment that isn't closed, and `*/` with no comment before it.
pub data IsBroken : Text → Lexeme → Type 0 where
  open_single : {raw : Text} → HasNo single_quote raw → IsBroken (single_quote ∷ raw) unclosed_quote
  open_double : {raw : Text} → InDoubleQuotes raw → IsBroken (double_quote ∷ raw) unclosed_quote
  open_escape : (raw : Text) → InDoubleQuotes raw → IsBroken (double_quote ∷ (raw ++ (backslash ∷ []))) unclosed_quote
  open_comment : {c : Text} → HasNoCommentEnd c → IsBroken (slash ∷ star ∷ c) unclosed_comment
  lone_end : {rest : Text} → IsBroken (star ∷ slash ∷ rest) stray_end

-- The tokens of a text from a place on, any gaps between them. The end of the text counts as a token, and so does what is
-- broken, behind which nothing is cut.
pub data CutInto : Place → Text → List Token → Type 0 where
  at_end : {place : Place} → CutInto place [] (at place.line finish ∷ [])
  broken : {place : Place} {text : Text} {lexeme : Lexeme} → IsBroken text lexeme
      → CutInto place text (at place.line lexeme ∷ [])
  after_gap : {place : Place} {bytes rest : Text} {ts : List Token} → IsGap bytes rest → CutInto (behind place bytes) rest ts
      → CutInto place (bytes ++ rest) ts
  after_token : {place : Place} {lexeme : Lexeme} {bytes rest : Text} {ts : List Token}
      → IsToken place.column lexeme bytes rest → CutInto (behind place bytes) rest ts
      → CutInto place (bytes ++ rest) (at place.line lexeme ∷ ts)

-- ---- statements

-- what a quoted string says (RFC 7950, 6.1.3)
pub data Says : Lexeme → Text → Type 0 where
  as_it_is : {raw : Text} → Says (single raw) (single_text raw)
  -- no backslash stands before another character than `n`, `t`, `"` and `\`
  stripped : {column : ℕ} {raw : Text} → bad_escape_line false 1 raw ≡ None
      → Says (double column raw) (double_text column raw)

-- Quoted strings with `+` between them, and what they say together
pub data Joined : List Token → Text → List Token → Type 0 where
  alone : {line : ℕ} {lexeme : Lexeme} {text : Text} {rest : List Token} → Says lexeme text
      → Joined (at line lexeme ∷ rest) text rest
  with : {line plus_line : ℕ} {lexeme : Lexeme} {text more : Text} {ts rest : List Token} → Says lexeme text
      → Joined ts more rest → Joined (at line lexeme ∷ (at plus_line (word (plus ∷ [])) ∷ ts)) (text ++ more) rest

-- perhaps an argument: a word, or quoted strings
pub data Argument : List Token → Option Text → List Token → Type 0 where
  absent : {rest : List Token} → Argument rest None rest
  unquoted_word : {line : ℕ} {w : Text} {rest : List Token} → Argument (at line (word w) ∷ rest) (Some w) rest
  quoted : {ts : List Token} {text : Text} {rest : List Token} → Joined ts text rest → Argument ts (Some text) rest

-- A row of statements, `level` blocks being open (RFC 7950, 6.3): each a keyword, perhaps an argument, then `;` or a block.
pub data Spelled : ℕ → List Token → Forest Statement → List Token → Type 0 where
  none : {level : ℕ} {rest : List Token} → Spelled level rest end rest
  bare : {level line l : ℕ} {k : Text} {a : Option Text} {after : Forest Statement} {ts us rest : List Token}
      → is_name k ≡ true → Argument ts a (at l semi ∷ us) → Spelled level us after rest
      → Spelled level (at line (word k) ∷ ts) (node (record { keyword = k; argument = a; line = line }) end after) rest
  block : {level line l m : ℕ} {k : Text} {a : Option Text} {below after : Forest Statement}
      {ts us vs rest : List Token} → is_name k ≡ true → Argument ts a (at l open_block ∷ us) → level < block_limit
      → Spelled (level + 1) us below (at m close_block ∷ vs) → Spelled level vs after rest
      → Spelled level (at line (word k) ∷ ts) (node (record { keyword = k; argument = a; line = line }) below after) rest

-- ---- a module's text

-- each character may stand where it does
abbrev pub AreAllowed : List ℕ → Type 0
AreAllowed [] = Unit
AreAllowed (c ∷ cs) = (is_allowed c cs ≡ true) × AreAllowed cs

-- a single statement with what stands below it
abbrev pub IsOne : Forest Statement → Type 0
IsOne (node s below end) = Unit
IsOne _ = ⊥

-- tokens up to the end of the text spell one statement
pub record TokensSpell (tokens : List Token) (top : Forest Statement) : Type 0 where
  pub one : IsOne top
  pub last_line : ℕ
  pub row : Spelled 0 tokens top (at last_line finish ∷ [])

-- A text spells a statement: it is short enough and of allowed characters, and its tokens spell that statement.
pub record Spells (text : Text) (top : Forest Statement) : Type 0 where
  pub short : length text ≤ text_limit
  pub utf8 : is_utf8 text ≡ true
  pub allowed : AreAllowed (chars text)
  pub tokens : List Token
  pub cut : CutInto start text tokens
  pub statement : TokensSpell tokens top

-- What the code's tokens and statements are as values of the definitions.
use Rattle.std.specs.Prelude.{ℕ, ◌+◌, ◌-◌, ◌<◌, ◌≤◌, length, ◌≡◌, Bool, codes, true, false, List, [], ◌∷◌, map, option_map, string_bytes}
use Rattle.std.specs.Str.{IsCharBoundary}
use Rattle.yspec.specs.text.Token as token
use Rattle.ytext.specs.Versions.{raw_in}
use Rattle.ytext.specs.declared.lexeme.Lexeme.{Lexeme}
use Rattle.ytext.specs.declared.lexeme.Lexeme.TheVariants.{Word, Single, Double, Semi, Open, Close, End, UnclosedQuote, UnclosedComment, StrayEnd}
use Rattle.ytext.specs.declared.lexeme.Front.{Front}
use Rattle.ytext.specs.declared.lexeme.Front.TheVariants as front
use Rattle.yspec.specs.Forest.{Forest, end, node}
use Rattle.yspec.specs.text.Statement.{Statement}
use Rattle.ytext.specs.declared.statement.FrequentKeyword.{FrequentKeyword}
use Rattle.ytext.specs.declared.statement.FrequentKeyword.TheVariants as frequent
use Rattle.ytext.specs.declared.statement.KeywordText.{KeywordText}
use Rattle.ytext.specs.declared.statement.KeywordText.TheVariants.{Frequent, Other}
use Rattle.ytext.specs.declared.statement.Stmt.{Stmt, fold-Stmt}
use Rattle.ytext.specs.declared.statement.Stmt.TheOpen.{Stmt-F}
use Rattle.ytext.specs.declared.statement.Module.{Module}

-- nothing follows it
abbrev pub ends_text : Lexeme → Bool
ends_text (Word w) = false
ends_text (Single raw) = false
ends_text (Double before raw is_yang_1) = false
ends_text Semi = false
ends_text Open = false
ends_text Close = false
ends_text End = true
ends_text UnclosedQuote = true
ends_text UnclosedComment = true
ends_text StrayEnd = true

abbrev pub a_word : List ℕ → token.Lexeme
a_word = token.word

abbrev pub is_word : token.Lexeme → Bool
is_word (token.word w) = true
is_word _ = false

-- the lexeme itself; of a double-quoted string's line before it only the column counts, and in YANG 1 its backslashes are mended
abbrev pub lexeme_of : Lexeme → token.Lexeme
lexeme_of (Word w) = token.word w.now
lexeme_of (Single raw) = token.single raw.now
lexeme_of (Double before raw is_yang_1) = token.double (token.column_behind 1 before.now) (raw_in is_yang_1 raw.now)
lexeme_of Semi = token.semi
lexeme_of Open = token.open_block
lexeme_of Close = token.close_block
lexeme_of End = token.finish
lexeme_of UnclosedQuote = token.unclosed_quote
lexeme_of UnclosedComment = token.unclosed_comment
lexeme_of StrayEnd = token.stray_end

-- what stands at a place, with its length in place of its end
abbrev pub front_of : ℕ → Front → token.Front
front_of place (front.Gap later) = token.gap (later - place)
front_of place (front.Token lexeme later) = token.token (lexeme_of lexeme) (later - place)
front_of place (front.Last lexeme) = token.last (lexeme_of lexeme)

-- how long a double-quoted string is, and the part of its line before it
abbrev pub extent : Lexeme → ℕ
extent (Double before raw is_yang_1) = length raw.now
extent _ = 0

abbrev pub indent : Lexeme → ℕ
indent (Double before raw is_yang_1) = length before.now
indent _ = 0

-- a later place where a text may be cut
abbrev pub IsLater : List ℕ → ℕ → ℕ → Type 0
IsLater text at later = (at < later) × IsCharBoundary text later

-- what stands at a place goes on to a later one, or ends the text
abbrev pub GoesOn : List ℕ → ℕ → Front → Type 0
GoesOn text at (front.Gap later) = IsLater text at later
GoesOn text at (front.Token lexeme later) =
    (ends_text lexeme ≡ false) × IsLater text at later × (extent lexeme + at ≤ later) × (indent lexeme ≤ at)
GoesOn text at (front.Last lexeme) = (ends_text lexeme ≡ true) × (extent lexeme ≡ 0) × (indent lexeme ≡ 0)

-- Where what is found ends: a token at a later place, and what ends the text where it begins.
abbrev pub Reaches : List ℕ → ℕ → Lexeme → ℕ → Type 0
Reaches text at lexeme later = (at ≤ later) × IsCharBoundary text later × (extent lexeme + at ≤ later) × (indent lexeme ≤ at)
    × (ends_text lexeme ≡ false → at < later)

-- ---- statements: a label, and the row of what stands below it

abbrev pub Labelled : Type 0
Labelled = Statement × Forest Statement

-- the row of some statements
abbrev pub row_of : List Labelled → Forest Statement
row_of [] = end
row_of (s ∷ ss) = node s.0 s.1 (row_of ss)

abbrev pub frequent_text : FrequentKeyword → List ℕ
frequent_text frequent.Leaf = codes "leaf"
frequent_text frequent.Type = codes "type"
frequent_text frequent.Enum = codes "enum"
frequent_text frequent.List = codes "list"
frequent_text frequent.Uses = codes "uses"
frequent_text frequent.Path = codes "path"
frequent_text frequent.Case = codes "case"
frequent_text frequent.Key = codes "key"
frequent_text frequent.Value = codes "value"
frequent_text frequent.Range = codes "range"
frequent_text frequent.Config = codes "config"
frequent_text frequent.Length = codes "length"
frequent_text frequent.Default = codes "default"
frequent_text frequent.Container = codes "container"
frequent_text frequent.LeafList = codes "leaf-list"
frequent_text frequent.Mandatory = codes "mandatory"
frequent_text frequent.Description = codes "description"
frequent_text frequent.FractionDigits = codes "fraction-digits"

-- the text of a keyword
abbrev pub keyword_bytes : KeywordText → List ℕ
keyword_bytes (Frequent keyword) = frequent_text keyword
keyword_bytes (Other text) = string_bytes text

-- one level, with what stands below already seen
abbrev pub view_step : Stmt-F Labelled → Labelled
view_step s = (
  record { keyword = keyword_bytes s.keyword; argument = option_map string_bytes s.arg; line = s.line },
  row_of s.subs.items,
)

abbrev pub view : Stmt → Labelled
view = fold-Stmt Labelled view_step

abbrev pub row_view : List Stmt → Forest Statement
row_view ss = row_of (map view ss)

-- the row of the top statements of some modules
abbrev pub modules_view : List Module → Forest Statement
modules_view ms = row_of (map (λ (m : Module). view m.top) ms)

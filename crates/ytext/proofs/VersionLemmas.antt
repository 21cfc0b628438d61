-- How tokens are cut in each version, and which version a text states.
use Rattle.std.proofs.Common.{◌≡◌, ℕ, zero, suc, ◌+◌, ◌-◌, ◌≤◌, List, [], ◌∷◌, Bool, true, false, ◌==◌, ◌&&◌, cond, Option, Some, None, Result, Ok, Err, length, map, take, refl, sym, ap, subst, ◌∙◌, arith, le_refl}
use Rattle.std.specs.Option.{option_map_or}
use Rattle.std.specs.Prelude.{codes}
use Rattle.yspec.specs.text.Text.{Text, is_text, line_after, backslash}
use Rattle.yspec.specs.text.Token.{Lexeme, Token, word, single, double, semi, open_block, close_block, finish, unclosed_quote, unclosed_comment, stray_end, Front, gap, token, last, front, at, escape, column_after}
use Rattle.yspec.specs.text.Scanning.{Piece, piece_at, pieces_with, pieces_from, pieces_of, wrong_escape}
use Rattle.yspec.specs.Forest.{Forest}
use Rattle.yspec.specs.text.Statement.{Statement, Slip, Row, argument, statement, top_statement, module_of}
use Rattle.yspec.specs.Results.{Gives, Fails}
use Rattle.yspec.proofs.TextProofs.ScanningLemmas.{same_tokens}
use Rattle.yspec_wide.specs.Language.{Language, core, rfc, YangVersion, yang_1, yang_1_1, is_yang_1}
use Rattle.yspec_wide.specs.Texts.{Position, before_keyword, before_argument, behind_argument, position_behind, front_of_1, met_in_1, tokens_in_1_from, mended, behind_backslash, read_in_1, argument_length, longer_word, module_by, module_in, module_in_1, reads_versions, version_of_text, version_by, version_at, version_among, version_behind, statement_below}
use Rattle.ytext.specs.Versions.{raw_in, front_is_word, first_standing, standing_behind, front_at, pieces_met, pieces_by, tokens_in}
use Rattle.ytext.specs.Characters.{judged}
use Rattle.ytext.specs.Stated.{unread, version_row}
use Rattle.ytext.specs.Reading.{rows}
use Rattle.ytext.specs.Told.{told_by}
use Rattle.ytext.specs.declared.fault.TextFault.{TextFault}
use Rattle.ytext.specs.declared.fault.TextFault.TheVariants.{Refused, Memory}
use Rattle.ytext.specs.declared.lexeme.Standing.{Standing}
use Rattle.ytext.specs.declared.lexeme.Standing.TheVariants.{Anywhere, BeforeKeyword, BeforeArgument, BehindArgument}
use Rattle.ytext.specs.View.{is_word}
use Rattle.ytext.proofs.QuotedLemmas.{no_backslash}
use Rattle.ytext.proofs.RowLemmas.{statement_shrinks, rows_shrink}

-- ---- tokens of YANG 1.1

met_plain : (start line : ℕ) (f : Front) (rest : Standing → ℕ → List Piece) (others : ℕ → List Piece) → ((n : ℕ) → rest Anywhere n ≡ others n)
    → pieces_met Anywhere start line f rest ≡ pieces_with start line f others
met_plain start line (gap n) rest others e = e n
met_plain start line (token lexeme n) rest others e = ap (λ (ps : List Piece). piece_at start (start + n) (at line lexeme) ∷ ps) (e n)
met_plain start line (last lexeme) rest others e = refl

pub pieces_plain : (skip start line column : ℕ) (xs : Text) → pieces_by Anywhere skip start line column xs ≡ pieces_from skip start line column xs
unfolding pieces_by pieces_from
pieces_plain skip start line column [] = refl
pieces_plain (suc skip) start line column (x ∷ xs) = pieces_plain skip (start + 1) (line_after x line) (column_after x column) xs
pieces_plain zero start line column (x ∷ xs) = met_plain start line (front column x xs)
    (λ next n. pieces_by next (n - 1) (start + 1) (line_after x line) (column_after x column) xs)
    (λ n. pieces_from (n - 1) (start + 1) (line_after x line) (column_after x column) xs)
    (λ n. pieces_plain (n - 1) (start + 1) (line_after x line) (column_after x column) xs)

-- ---- tokens of YANG 1

abbrev standing_of : Position → Standing
standing_of before_keyword = BeforeKeyword
standing_of before_argument = BeforeArgument
standing_of behind_argument = BehindArgument

abbrev tokens_at : List Piece → List Token
tokens_at ps = map (λ (p : Piece). p.token) ps

front_same : (p : Position) (column x : ℕ) (xs : Text) → front_at (standing_of p) column x xs ≡ front_of_1 p column x xs
front_same before_keyword column x xs = refl
front_same before_argument column x xs = refl
front_same behind_argument column x xs = refl

behind_same : (p : Position) (lexeme : Lexeme) → standing_behind (standing_of p) lexeme ≡ standing_of (position_behind p lexeme)
behind_same before_keyword (word w) = refl
behind_same before_keyword (single raw) = refl
behind_same before_keyword (double column raw) = refl
behind_same before_keyword semi = refl
behind_same before_keyword open_block = refl
behind_same before_keyword close_block = refl
behind_same before_keyword finish = refl
behind_same before_keyword unclosed_quote = refl
behind_same before_keyword unclosed_comment = refl
behind_same before_keyword stray_end = refl
behind_same before_argument (word w) = refl
behind_same before_argument (single raw) = refl
behind_same before_argument (double column raw) = refl
behind_same before_argument semi = refl
behind_same before_argument open_block = refl
behind_same before_argument close_block = refl
behind_same before_argument finish = refl
behind_same before_argument unclosed_quote = refl
behind_same before_argument unclosed_comment = refl
behind_same before_argument stray_end = refl
behind_same behind_argument (word w) = refl
behind_same behind_argument (single raw) = refl
behind_same behind_argument (double column raw) = refl
behind_same behind_argument semi = refl
behind_same behind_argument open_block = refl
behind_same behind_argument close_block = refl
behind_same behind_argument finish = refl
behind_same behind_argument unclosed_quote = refl
behind_same behind_argument unclosed_comment = refl
behind_same behind_argument stray_end = refl

met_placed : (p : Position) (start line : ℕ) (f : Front) (rest : Standing → ℕ → List Piece) (others : Position → ℕ → List Token)
    → ((q : Position) (n : ℕ) → tokens_at (rest (standing_of q) n) ≡ others q n) → tokens_at (pieces_met (standing_of p) start line f rest) ≡ met_in_1 p line f others
met_placed p start line (gap n) rest others e = e p n
met_placed p start line (token lexeme n) rest others e =
    ap (λ (s : Standing). at line lexeme ∷ tokens_at (rest s n)) (behind_same p lexeme)
    ∙ ap (λ (ts : List Token). at line lexeme ∷ ts) (e (position_behind p lexeme) n)
met_placed p start line (last lexeme) rest others e = refl

pub tokens_placed : (p : Position) (skip start line column : ℕ) (xs : Text)
    → tokens_at (pieces_by (standing_of p) skip start line column xs) ≡ tokens_in_1_from p skip line column xs
unfolding pieces_by tokens_in_1_from
tokens_placed p skip start line column [] = refl
tokens_placed p (suc skip) start line column (x ∷ xs) = tokens_placed p skip (start + 1) (line_after x line) (column_after x column) xs
tokens_placed p zero start line column (x ∷ xs) =
    ap (λ (f : Front). tokens_at (pieces_met (standing_of p) start line f (λ next n. pieces_by next (n - 1) (start + 1) (line_after x line) (column_after x column) xs))) (front_same p column x xs)
    ∙ met_placed p start line (front_of_1 p column x xs)
    (λ next n. pieces_by next (n - 1) (start + 1) (line_after x line) (column_after x column) xs)
    (λ next n. tokens_in_1_from next (n - 1) (line_after x line) (column_after x column) xs)
    (λ q n. tokens_placed q (n - 1) (start + 1) (line_after x line) (column_after x column) xs)

-- the tokens of a text, from its beginning
pub tokens_first : (old : Bool) (standing : Standing) (text : Text) → standing ≡ first_standing old
    → tokens_at (pieces_by standing 0 0 1 1 text) ≡ tokens_in old text
tokens_first true standing text e = ap (λ (s : Standing). tokens_at (pieces_by s 0 0 1 1 text)) e ∙ tokens_placed before_keyword 0 0 1 1 text
tokens_first false standing text e =
    ap (λ (s : Standing). tokens_at (pieces_by s 0 0 1 1 text)) e ∙ ap tokens_at (pieces_plain 0 0 1 1 text) ∙ same_tokens 0 0 1 1 text

pub pieces_first : (old : Bool) (standing : Standing) (text : Text) → standing ≡ first_standing old → old ≡ false
    → pieces_by standing 0 0 1 1 text ≡ pieces_of text
pieces_first old standing text e f =
    ap (λ (s : Standing). pieces_by s 0 0 1 1 text) (e ∙ ap first_standing f) ∙ pieces_plain 0 0 1 1 text

-- ---- backslashes

again_behind : (x : ℕ) (rest : List ℕ) (o : Option ℕ) → escape x ≡ o → mended false rest ≡ rest
    → mended true (behind_backslash x (x ∷ rest)) ≡ behind_backslash x (x ∷ rest)
unfolding mended
again_behind x rest (Some z) e h =
    ap (λ (p : Option ℕ). mended true (option_map_or (λ _. x ∷ rest) p (92 ∷ x ∷ rest))) e
    ∙ ap (λ (r : List ℕ). behind_backslash x (x ∷ r)) h
again_behind x rest None e h =
    ap (λ (p : Option ℕ). mended true (option_map_or (λ _. x ∷ rest) p (92 ∷ x ∷ rest))) e
    ∙ ap (λ (b : Bool). 92 ∷ x ∷ mended b rest) (no_backslash x e)
    ∙ ap (λ (r : List ℕ). 92 ∷ x ∷ r) h
    ∙ sym (ap (λ (p : Option ℕ). option_map_or (λ _. x ∷ rest) p (92 ∷ x ∷ rest)) e)

-- what is mended stays
pub mended_again : (after_backslash : Bool) (xs : List ℕ) → mended after_backslash (mended after_backslash xs) ≡ mended after_backslash xs
unfolding mended
mended_again after_backslash [] = refl
mended_again false (x ∷ xs) = ap (λ (r : List ℕ). x ∷ r) (mended_again (x == backslash) xs)
mended_again true (x ∷ xs) = again_behind x (mended false xs) (escape x) refl (mended_again false xs)

right_behind : (x place : ℕ) (rest : List ℕ) (o : Option ℕ) → escape x ≡ o → ((n : ℕ) → wrong_escape false n rest ≡ None)
    → wrong_escape true place (behind_backslash x (x ∷ rest)) ≡ None
unfolding wrong_escape
right_behind x place rest (Some z) e h =
    ap (λ (p : Option ℕ). wrong_escape true place (option_map_or (λ _. x ∷ rest) p (92 ∷ x ∷ rest))) e
    ∙ ap (λ (p : Option ℕ). option_map_or (λ _. wrong_escape false (place + 1) rest) p (Some (place - 1))) e
    ∙ h (place + 1)
right_behind x place rest None e h =
    ap (λ (p : Option ℕ). wrong_escape true place (option_map_or (λ _. x ∷ rest) p (92 ∷ x ∷ rest))) e
    ∙ ap (λ (b : Bool). wrong_escape b ((place + 1) + 1) rest) (no_backslash x e)
    ∙ h ((place + 1) + 1)

-- in what is mended no backslash is wrong
pub mended_right : (after_backslash : Bool) (place : ℕ) (xs : List ℕ) → wrong_escape after_backslash place (mended after_backslash xs) ≡ None
unfolding mended wrong_escape
mended_right after_backslash place [] = refl
mended_right false place (x ∷ xs) = mended_right (x == backslash) (place + 1) xs
mended_right true place (x ∷ xs) = right_behind x place (mended false xs) (escape x) refl (λ n. mended_right false n xs)

pub mended_none : (old : Bool) (place : ℕ) (raw : List ℕ) → old ≡ true → wrong_escape false place (raw_in old raw) ≡ None
mended_none true place raw e = mended_right false place raw
mended_none false place raw e = cc

pub raw_plain : (old : Bool) (raw : List ℕ) → old ≡ false → raw_in old raw ≡ raw
raw_plain false raw e = refl
raw_plain true raw e = cc

-- a string is read once, whether it is marked or not
pub reads_once : (old : Bool) (column : ℕ) (raw : List ℕ) → double column (mended false raw) ≡ read_in_1 (double column (raw_in old raw))
reads_once false column raw = refl
reads_once true column raw = ap (double column) (sym (mended_again false raw))

-- ---- arguments

pub longer_is : (x : ℕ) (xs : List ℕ) (f : Front) → front_is_word f ≡ true → longer_word x xs f ≡ token (word (x ∷ take (argument_length xs) xs)) (suc (argument_length xs))
longer_is x xs (token (word w) n) e = refl
longer_is x xs (token (single raw) n) e = cc
longer_is x xs (token (double column raw) n) e = cc
longer_is x xs (token semi n) e = cc
longer_is x xs (token open_block n) e = cc
longer_is x xs (token close_block n) e = cc
longer_is x xs (token finish n) e = cc
longer_is x xs (token unclosed_quote n) e = cc
longer_is x xs (token unclosed_comment n) e = cc
longer_is x xs (token stray_end n) e = cc
longer_is x xs (gap n) e = cc
longer_is x xs (last lexeme) e = cc

pub longer_not : (x : ℕ) (xs : List ℕ) (f : Front) → front_is_word f ≡ false → longer_word x xs f ≡ f
longer_not x xs (token (word w) n) e = cc
longer_not x xs (token (single raw) n) e = refl
longer_not x xs (token (double column raw) n) e = refl
longer_not x xs (token semi n) e = refl
longer_not x xs (token open_block n) e = refl
longer_not x xs (token close_block n) e = refl
longer_not x xs (token finish n) e = refl
longer_not x xs (token unclosed_quote n) e = refl
longer_not x xs (token unclosed_comment n) e = refl
longer_not x xs (token stray_end n) e = refl
longer_not x xs (gap n) e = refl
longer_not x xs (last lexeme) e = refl

-- ---- whole texts

of_version : (version : YangVersion) (t : Text) → module_by version t ≡ judged t (top_statement (tokens_in (is_yang_1 version) t))
unfolding module_of module_in_1
of_version yang_1 t = refl
of_version yang_1_1 t = refl

-- a language reads a text by its tokens in a version
pub module_by_tokens : (language : Language) (reads : Bool) (t : Text) → reads_versions language ≡ reads
    → module_in language t ≡ judged t (top_statement (tokens_in (reads && is_yang_1 (version_of_text t)) t))
module_by_tokens core false t e = of_version yang_1_1 t
module_by_tokens core true t e = cc
module_by_tokens (rfc wide) true t e = of_version (version_of_text t) t
module_by_tokens (rfc wide) false t e = cc

-- what a text of right characters gives
pub given_in : {X F : Type 0} (see : X → Forest Statement) (told : F → Option Slip) (given : Result X F) (language : Language) (reads : Bool) (t text : Text)
    → reads_versions language ≡ reads → text ≡ t → ((top : Result (Forest Statement) Slip) → judged t top ≡ top)
    → Gives see told given (top_statement (tokens_in (reads && is_yang_1 (version_of_text text)) text)) → Gives see told given (module_in language t)
given_in see told given language reads t text e same right is =
    subst (Gives see told given)
    (ap (λ (u : Text). top_statement (tokens_in (reads && is_yang_1 (version_of_text u)) u)) same
    ∙ sym (module_by_tokens language reads t e ∙ right (top_statement (tokens_in (reads && is_yang_1 (version_of_text t)) t)))) is

pub fails_in : (slip : Option Slip) (language : Language) (reads : Bool) (t : Text) → reads_versions language ≡ reads
    → ((top : Result (Forest Statement) Slip) → Fails slip (judged t top)) → Fails slip (module_in language t)
fails_in slip language reads t e fails =
    subst (Fails slip) (sym (module_by_tokens language reads t e)) (fails (top_statement (tokens_in (reads && is_yang_1 (version_of_text t)) t)))

-- a text is read in the version that is found
pub read_so : {X F : Type 0} (see : X → Forest Statement) (told : F → Option Slip) (given : Result X F) (has old : Bool) (t : Text)
    → (has && is_yang_1 (version_of_text t)) ≡ old → Gives see told given (top_statement (tokens_in old t))
    → Gives see told given (top_statement (tokens_in (has && is_yang_1 (version_of_text t)) t))
read_so see told given has old t e is = subst (λ (v : Bool). Gives see told given (top_statement (tokens_in v t))) (sym e) is

pub found_so : (has old new : Bool) → has ≡ true → ◌≡◌ {A = Result Bool Slip} (Ok new) (Ok old) → (has && new) ≡ old
found_so has old new e f = ap (λ (b : Bool). b && new) e ∙ ok_bool new old f
  where
    ok_bool : (a b : Bool) → ◌≡◌ {A = Result Bool Slip} (Ok a) (Ok b) → a ≡ b
    ok_bool a b e = cc

-- what isn't refused fails by want of memory alone
pub no_refusal : {Y : Type 0} (slip : Option Slip) (b : Bool) (read : Result Y Slip) → Fails slip (Ok b) → Fails slip read
no_refusal None b read h = tt
no_refusal (Some s) b read h = cc

-- ---- the version that is stated

behind_alike : (r : Result Row Slip) (f g : List Token → YangVersion) → ((x : Row) → r ≡ Ok x → f x.1 ≡ g x.1) → version_behind f r ≡ version_behind g r
behind_alike (Ok x) f g h = h x refl
behind_alike (Err s) f g h = refl

at_alike : (l : Lexeme) (f g : List Token → YangVersion) (line : ℕ) (ts : List Token) → ((us : List Token) → length us ≤ length ts → f us ≡ g us)
    → version_at l f line ts ≡ version_at l g line ts
at_alike (word w) f g line ts h =
    ap (λ (v : YangVersion). cond (is_text w (codes "yang-version")) (version_by (argument ts)) v)
    (behind_alike (statement_below w line ts) f g (λ x e. h x.1 (statement_shrinks (rows 2) 1 w line ts (rows_shrink 2) x e)))
at_alike (single raw) f g line ts h = refl
at_alike (double column raw) f g line ts h = refl
at_alike semi f g line ts h = refl
at_alike open_block f g line ts h = refl
at_alike close_block f g line ts h = refl
at_alike finish f g line ts h = refl
at_alike unclosed_quote f g line ts h = refl
at_alike unclosed_comment f g line ts h = refl
at_alike stray_end f g line ts h = refl

enough : (f g : ℕ) (ts : List Token) → length ts ≤ f → length ts ≤ g → version_among f ts ≡ version_among g ts
unfolding version_among
enough zero zero [] h k = refl
enough zero (suc g) [] h k = refl
enough (suc f) zero [] h k = refl
enough (suc f) (suc g) [] h k = refl
enough zero g (t ∷ ts) h k = absurd (omega (arith, h))
enough (suc f) zero (t ∷ ts) h k = absurd (omega (arith, k))
enough (suc f) (suc g) (t ∷ ts) h k =
    at_alike t.lexeme (version_among f) (version_among g) t.line ts (λ us m. enough f g us (omega (arith, h, m)) (omega (arith, k, m)))

-- by the first token
row_by : (t : Token) (ts : List Token) → version_row (t ∷ ts) ≡ version_at t.lexeme version_row t.line ts
unfolding version_among
row_by t ts = at_alike t.lexeme (version_among (length ts)) version_row t.line ts (λ us m. enough (length ts) (length us) us m (le_refl (length us)))

-- at a keyword
pub stated_at : (w : Text) (line : ℕ) (ts : List Token) → is_text w (codes "yang-version") ≡ true → version_row (at line (word w) ∷ ts) ≡ version_by (argument ts)
stated_at w line ts e =
    row_by (at line (word w)) ts ∙ ap (λ (b : Bool). cond b (version_by (argument ts)) (version_behind version_row (statement_below w line ts))) e

pub other_at : (w : Text) (line : ℕ) (ts : List Token) → is_text w (codes "yang-version") ≡ false
    → version_row (at line (word w) ∷ ts) ≡ version_behind version_row (statement (rows 2) 1 w line ts)
other_at w line ts e =
    row_by (at line (word w)) ts ∙ ap (λ (b : Bool). cond b (version_by (argument ts)) (version_behind version_row (statement_below w line ts))) e

-- at another token
at_other : (l : Lexeme) (f : List Token → YangVersion) (line : ℕ) (ts : List Token) → is_word l ≡ false → version_at l f line ts ≡ yang_1
at_other (word w) f line ts e = cc
at_other (single raw) f line ts e = refl
at_other (double column raw) f line ts e = refl
at_other semi f line ts e = refl
at_other open_block f line ts e = refl
at_other close_block f line ts e = refl
at_other finish f line ts e = refl
at_other unclosed_quote f line ts e = refl
at_other unclosed_comment f line ts e = refl
at_other stray_end f line ts e = refl

pub none_at : (t : Token) (ts : List Token) → is_word t.lexeme ≡ false → version_row (t ∷ ts) ≡ yang_1
none_at t ts e = row_by t ts ∙ at_other t.lexeme version_row t.line ts e

-- what isn't read states nothing
pub unread_gives : {A : Type 0} (fault : TextFault) (r : Result A Slip) (version : Result A Slip → YangVersion) → ((s : Slip) → version (Err s) ≡ yang_1)
    → Fails (told_by fault) r → Gives (λ is. is) told_by (unread fault) (Ok (is_yang_1 (version r)))
unread_gives Memory r version h e = tt
unread_gives (Refused code line) r version h e = ap (λ (v : YangVersion). Ok (is_yang_1 v)) (ap version e ∙ h _)

-- Tokens are read where they begin.
use Rattle.std.proofs.Common.{◌≡◌, ℕ, zero, suc, ◌+◌, Bool, true, false, cond, eqb, ◌||◌, not, ◌++◌, List, [], ◌∷◌, map, drop, Option, Some, None, refl, sym, ap, ◌∙◌, subst, arith, append_assoc}
use Rattle.std.proofs.lemmas.Bool.{eqb-true}
use Rattle.std.proofs.lemmas.List.{append-nil, map-append}
use Rattle.json.specs.Json.{Json, null, boolean, number, string, array, object, Items, no_items, item, Members, no_members, member, document}
use Rattle.json.specs.Lex.{Lexeme, token, comma, colon, Class, quote, backslash, operator, space, other, class, Mode, between, in_word, in_string, in_escape, lex_byte, lex, Place, fresh, after_value, after_comma, after_key, begins_colon, if_allowed, place_token, may_begin, may_close, punctuate, tokens}
use Rattle.json.specs.Token as kit
use Rattle.json.specs.Token.{Token}
use Rattle.json.specs.Tree.{json_tokens, items_tokens, members_tokens}
use Rattle.json.proofs.Unique.Spelling.{tokens-document}
use Rattle.ysay_lines.specs.Starts.{begins, behind, is_bracket, is_gap, starts_from}
use Rattle.ysay_lines.specs.Tokens.{first_token, token_at, tokens_among, tokens_at_starts, unkeyed}

-- ---- one byte

-- what is read of a byte and those behind it, by whether a token begins there
abbrev ReadSo : Mode → ℕ → List ℕ → Type 0
ReadSo m x xs = tokens_among (lex m (x ∷ xs)) ≡ cond (begins m x) (first_token (tokens_among (lex between (x ∷ xs))) ∷ []) [] ++ tokens_among (lex (behind m x) xs)

at_quote : (m : Mode) (xs : List ℕ) → ReadSo m 34 xs
unfolding lex
at_quote between xs = refl
at_quote in_word xs = refl
at_quote in_string xs = refl
at_quote in_escape xs = refl

at_backslash : (m : Mode) (xs : List ℕ) → ReadSo m 92 xs
unfolding lex
at_backslash between xs = refl
at_backslash in_word xs = refl
at_backslash in_string xs = refl
at_backslash in_escape xs = refl

at_open_brace : (m : Mode) (xs : List ℕ) → ReadSo m 123 xs
unfolding lex
at_open_brace between xs = refl
at_open_brace in_word xs = refl
at_open_brace in_string xs = refl
at_open_brace in_escape xs = refl

at_close_brace : (m : Mode) (xs : List ℕ) → ReadSo m 125 xs
unfolding lex
at_close_brace between xs = refl
at_close_brace in_word xs = refl
at_close_brace in_string xs = refl
at_close_brace in_escape xs = refl

at_open_bracket : (m : Mode) (xs : List ℕ) → ReadSo m 91 xs
unfolding lex
at_open_bracket between xs = refl
at_open_bracket in_word xs = refl
at_open_bracket in_string xs = refl
at_open_bracket in_escape xs = refl

at_close_bracket : (m : Mode) (xs : List ℕ) → ReadSo m 93 xs
unfolding lex
at_close_bracket between xs = refl
at_close_bracket in_word xs = refl
at_close_bracket in_string xs = refl
at_close_bracket in_escape xs = refl

at_colon : (m : Mode) (xs : List ℕ) → ReadSo m 58 xs
unfolding lex
at_colon between xs = refl
at_colon in_word xs = refl
at_colon in_string xs = refl
at_colon in_escape xs = refl

at_comma : (m : Mode) (xs : List ℕ) → ReadSo m 44 xs
unfolding lex
at_comma between xs = refl
at_comma in_word xs = refl
at_comma in_string xs = refl
at_comma in_escape xs = refl

at_space : (m : Mode) (xs : List ℕ) → ReadSo m 32 xs
unfolding lex
at_space between xs = refl
at_space in_word xs = refl
at_space in_string xs = refl
at_space in_escape xs = refl

at_tab : (m : Mode) (xs : List ℕ) → ReadSo m 9 xs
unfolding lex
at_tab between xs = refl
at_tab in_word xs = refl
at_tab in_string xs = refl
at_tab in_escape xs = refl

at_line_feed : (m : Mode) (xs : List ℕ) → ReadSo m 10 xs
unfolding lex
at_line_feed between xs = refl
at_line_feed in_word xs = refl
at_line_feed in_string xs = refl
at_line_feed in_escape xs = refl

at_carriage_return : (m : Mode) (xs : List ℕ) → ReadSo m 13 xs
unfolding lex
at_carriage_return between xs = refl
at_carriage_return in_word xs = refl
at_carriage_return in_string xs = refl
at_carriage_return in_escape xs = refl

-- a byte that is none of these
abbrev IsOther : ℕ → Type 0
IsOther x = (class x ≡ other) × (is_bracket x ≡ false) × (is_gap x ≡ false) × (eqb x 34 ≡ false) × (eqb x 92 ≡ false)

other_byte : (x : ℕ) → eqb x 34 ≡ false → eqb x 92 ≡ false → eqb x 123 ≡ false → eqb x 125 ≡ false → eqb x 91 ≡ false → eqb x 93 ≡ false
    → eqb x 58 ≡ false → eqb x 44 ≡ false → eqb x 32 ≡ false → eqb x 9 ≡ false → eqb x 10 ≡ false → eqb x 13 ≡ false → IsOther x
other_byte x q e a b c d f g h i j k =
    (rw (q, e, a, b, c, d, f, g, h, i, j, k) refl, rw (a, b, c, d) refl, rw (f, g, h, i, j, k) refl, q, e)

abbrev between_so : ℕ → List ℕ → Class → Bool → Bool → Bool → Type 0
between_so x xs c bracket gap quoted =
    tokens_among (lex_byte between c x xs (λ next. lex next xs))
    ≡ cond (not gap) (first_token (tokens_among (lex_byte between c x xs (λ next. lex next xs))) ∷ []) []
    ++ tokens_among (lex (cond quoted in_string (cond (bracket || gap) between in_word)) xs)

abbrev word_so : ℕ → List ℕ → Class → Bool → Bool → Type 0
word_so x xs c bracket gap =
    tokens_among (lex_byte in_word c x xs (λ next. lex next xs))
    ≡ cond bracket (first_token (tokens_among (lex between (x ∷ xs))) ∷ []) [] ++ tokens_among (lex (cond (bracket || gap) between in_word) xs)

abbrev string_so : ℕ → List ℕ → Class → Bool → Bool → Type 0
string_so x xs c quoted escaped =
    tokens_among (lex_byte in_string c x xs (λ next. lex next xs)) ≡ tokens_among (lex (cond quoted between (cond escaped in_escape in_string)) xs)

at_other : (m : Mode) (x : ℕ) (xs : List ℕ) → IsOther x → ReadSo m x xs
unfolding lex
at_other between x xs o =
    subst (λ c. between_so x xs c (is_bracket x) (is_gap x) (eqb x 34)) (sym o.0)
    (subst (λ b. between_so x xs other b (is_gap x) (eqb x 34)) (sym o.1)
    (subst (λ g. between_so x xs other false g (eqb x 34)) (sym o.2) (subst (between_so x xs other false false) (sym o.3) refl)))
at_other in_word x xs o =
    subst (λ c. word_so x xs c (is_bracket x) (is_gap x)) (sym o.0)
    (subst (λ b. word_so x xs other b (is_gap x)) (sym o.1) (subst (word_so x xs other false) (sym o.2) refl))
at_other in_string x xs o =
    subst (λ c. string_so x xs c (eqb x 34) (eqb x 92)) (sym o.0)
    (subst (λ b. string_so x xs other b (eqb x 92)) (sym o.3) (subst (string_so x xs other false) (sym o.4) refl))
at_other in_escape x xs o = refl

unless : (k x : ℕ) (P : ℕ → Type 0) → P k → (eqb x k ≡ false → P x) → P x
unless k x P here otherwise = by (eqb x k) refl
  where
    by : (b : Bool) → eqb x k ≡ b → P x
    by true e = subst P (sym (eqb-true x k e)) here
    by false e = otherwise e

read_so : (m : Mode) (x : ℕ) (xs : List ℕ) → ReadSo m x xs
read_so m x xs =
    let P = λ (y : ℕ). ReadSo m y xs in
    unless 34 x P (at_quote m xs) (λ q. unless 92 x P (at_backslash m xs) (λ e. unless 123 x P (at_open_brace m xs) (λ a. unless 125 x P (at_close_brace m xs) (λ b.
    unless 91 x P (at_open_bracket m xs) (λ c. unless 93 x P (at_close_bracket m xs) (λ d. unless 58 x P (at_colon m xs) (λ f. unless 44 x P (at_comma m xs) (λ g.
    unless 32 x P (at_space m xs) (λ h. unless 9 x P (at_tab m xs) (λ i. unless 10 x P (at_line_feed m xs) (λ j. unless 13 x P (at_carriage_return m xs) (λ k.
    at_other m x xs (other_byte x q e a b c d f g h i j k)))))))))))))

-- ---- all bytes

read_from : (f : ℕ → Token) (rest : List ℕ) (m : Mode) (offset : ℕ) → ((k : ℕ) → f (offset + k) ≡ first_token (tokens_among (lex between (drop k rest))))
    → map f (starts_from m offset rest) ≡ tokens_among (lex m rest)
unfolding starts_from lex
read_from f [] m offset same = refl
read_from f (x ∷ xs) m offset same =
    map-append f (cond (begins m x) (offset ∷ []) []) (starts_from (behind m x) (offset + 1) xs)
    ∙ (ap (λ ts. ts ++ map f (starts_from (behind m x) (offset + 1) xs)) (by (begins m x))
    ∙ (ap (λ ts. cond (begins m x) (first_token (tokens_among (lex between (x ∷ xs))) ∷ []) [] ++ ts) (read_from f xs (behind m x) (offset + 1) later) ∙ sym (read_so m x xs)))
  where
    at_first : f offset ≡ first_token (tokens_among (lex between (x ∷ xs)))
    at_first = let none : offset ≡ offset + 0 = omega arith in ap f none ∙ same 0

    by : (b : Bool) → map f (cond b (offset ∷ []) []) ≡ cond b (first_token (tokens_among (lex between (x ∷ xs))) ∷ []) []
    by true = ap (λ t. t ∷ []) at_first
    by false = refl

    later : (k : ℕ) → f (offset + 1 + k) ≡ first_token (tokens_among (lex between (drop k xs)))
    later k = let more : offset + 1 + k ≡ offset + suc k = omega arith in ap f more ∙ same (suc k)

-- the tokens that are read where tokens begin are those that the lexer finds
pub all_read : (text : List ℕ) → tokens_at_starts text ≡ tokens_among (lex between text)
all_read text = read_from (token_at text) text between 0 (λ k. let none : 0 + k ≡ k = omega arith in ap (token_at text) none)

-- ---- and those of the value that the text is

abbrev has_bad : List Token → Bool
has_bad [] = false
has_bad (kit.bad ∷ ts) = true
has_bad (t ∷ ts) = has_bad ts

abbrev FromLexemes : List Token → List Lexeme → Type 0
FromLexemes ts ls = has_bad ts ≡ false → map unkeyed ts ≡ tokens_among ls

module _ (ls : List Lexeme) (k : Place → List Token) (later : (p : Place) → FromLexemes (k p) ls) where
  placed : (p : Place) (t : Token) (before_colon : Bool) → FromLexemes (place_token p t before_colon k) (token t ∷ ls)
  placed p kit.begin_object b = by (may_begin p)
    where
      by : (c : Bool) → FromLexemes (if_allowed c kit.begin_object k fresh) (token kit.begin_object ∷ ls)
      by true h = ap (λ ts. kit.begin_object ∷ ts) (later fresh h)
      by false h = cc
  placed p kit.end_object b = by (may_close p)
    where
      by : (c : Bool) → FromLexemes (if_allowed c kit.end_object k after_value) (token kit.end_object ∷ ls)
      by true h = ap (λ ts. kit.end_object ∷ ts) (later after_value h)
      by false h = cc
  placed p kit.begin_array b = by (may_begin p)
    where
      by : (c : Bool) → FromLexemes (if_allowed c kit.begin_array k fresh) (token kit.begin_array ∷ ls)
      by true h = ap (λ ts. kit.begin_array ∷ ts) (later fresh h)
      by false h = cc
  placed p kit.end_array b = by (may_close p)
    where
      by : (c : Bool) → FromLexemes (if_allowed c kit.end_array k after_value) (token kit.end_array ∷ ls)
      by true h = ap (λ ts. kit.end_array ∷ ts) (later after_value h)
      by false h = cc
  placed p (kit.key s) b = λ h. cc
  placed p (kit.string s) true = by (may_begin p)
    where
      by : (c : Bool) → FromLexemes (if_allowed c (kit.key s) k after_key) (token (kit.string s) ∷ ls)
      by true h = ap (λ ts. kit.string s ∷ ts) (later after_key h)
      by false h = cc
  placed p (kit.string s) false = by (may_begin p)
    where
      by : (c : Bool) → FromLexemes (if_allowed c (kit.string s) k after_value) (token (kit.string s) ∷ ls)
      by true h = ap (λ ts. kit.string s ∷ ts) (later after_value h)
      by false h = cc
  placed p (kit.number s) b = by (may_begin p)
    where
      by : (c : Bool) → FromLexemes (if_allowed c (kit.number s) k after_value) (token (kit.number s) ∷ ls)
      by true h = ap (λ ts. kit.number s ∷ ts) (later after_value h)
      by false h = cc
  placed p (kit.boolean t) b = by (may_begin p)
    where
      by : (c : Bool) → FromLexemes (if_allowed c (kit.boolean t) k after_value) (token (kit.boolean t) ∷ ls)
      by true h = ap (λ ts. kit.boolean t ∷ ts) (later after_value h)
      by false h = cc
  placed p kit.null b = by (may_begin p)
    where
      by : (c : Bool) → FromLexemes (if_allowed c kit.null k after_value) (token kit.null ∷ ls)
      by true h = ap (λ ts. kit.null ∷ ts) (later after_value h)
      by false h = cc
  placed p kit.bad b = λ h. cc

punctuated : (ls : List Lexeme) (p : Place) → FromLexemes (punctuate p ls) ls
unfolding punctuate
punctuated [] fresh h = refl
punctuated [] after_value h = refl
punctuated [] after_comma h = cc
punctuated [] after_key h = cc
punctuated (token t ∷ ls) fresh h = placed ls (λ next. punctuate next ls) (punctuated ls) fresh t (begins_colon ls) h
punctuated (token t ∷ ls) after_value h = placed ls (λ next. punctuate next ls) (punctuated ls) after_value t (begins_colon ls) h
punctuated (token t ∷ ls) after_comma h = placed ls (λ next. punctuate next ls) (punctuated ls) after_comma t (begins_colon ls) h
punctuated (token t ∷ ls) after_key h = placed ls (λ next. punctuate next ls) (punctuated ls) after_key t (begins_colon ls) h
punctuated (comma ∷ ls) fresh h = cc
punctuated (comma ∷ ls) after_value h = punctuated ls after_comma h
punctuated (comma ∷ ls) after_comma h = cc
punctuated (comma ∷ ls) after_key h = cc
punctuated (colon ∷ ls) fresh h = cc
punctuated (colon ∷ ls) after_value h = cc
punctuated (colon ∷ ls) after_comma h = cc
punctuated (colon ∷ ls) after_key h = punctuated ls fresh h

mutual
  none_bad : (j : Json) (ts : List Token) → has_bad ts ≡ false → has_bad (json_tokens j ++ ts) ≡ false
  none_bad null ts h = h
  none_bad (boolean b) ts h = h
  none_bad (number n) ts h = h
  none_bad (string s) ts h = h
  none_bad (array js) ts h = no_item_bad js ts h
  none_bad (object ms) ts h = no_member_bad ms ts h

  no_item_bad : (js : Items) (ts : List Token) → has_bad ts ≡ false → has_bad (items_tokens js ++ ts) ≡ false
  no_item_bad no_items ts h = h
  no_item_bad (item j js) ts h = ap has_bad (append_assoc (json_tokens j) (items_tokens js) ts) ∙ none_bad j (items_tokens js ++ ts) (no_item_bad js ts h)

  no_member_bad : (ms : Members) (ts : List Token) → has_bad ts ≡ false → has_bad (members_tokens ms ++ ts) ≡ false
  no_member_bad no_members ts h = h
  no_member_bad (member k j ms) ts h = ap has_bad (append_assoc (json_tokens j) (members_tokens ms) ts) ∙ none_bad j (members_tokens ms ++ ts) (no_member_bad ms ts h)

pub value_read : (text : List ℕ) (j : Json) → document text ≡ Some j → map unkeyed (json_tokens j) ≡ tokens_at_starts text
value_read text j is =
    let good : has_bad (tokens text) ≡ false = ap has_bad (tokens-document text j is ∙ sym (append-nil (json_tokens j))) ∙ none_bad j [] refl in
    sym (ap (map unkeyed) (tokens-document text j is)) ∙ (punctuated (lex between text) fresh good ∙ sym (all_read text))

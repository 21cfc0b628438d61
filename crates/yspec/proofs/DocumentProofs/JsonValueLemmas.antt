-- What is read of a text that is UTF-8: its texts are so too, its whole numbers have 64 bits, and members stand in order.
use Rattle.std.proofs.Common.{◌≡◌, ℕ, zero, suc, ◌<◌, ◌≤◌, ◌^◌, pos, negsuc, neg_ℤ, Bool, true, false, cond, ◌&&◌, ◌==◌, ◌-◌, nat_eq, take, ◌++◌, List, [], ◌∷◌, length, Option, Some, None, option_map, option_and_then, Ordering, Less, Equal, Greater, nat_cmp, IsUtf8, refl, sym, subst, arith, eqb-true, append_assoc}
use Rattle.std.proofs.lemmas.Str.{IsUtf8-from_is_utf8}
use Rattle.std.specs.Cmp.Lexicographic.{slice_cmp}
use Rattle.std.specs.Ordering.{match_ordering}
use Rattle.std.specs.List.{starts_with}
use Rattle.std.specs.Str.{is_utf8}
use Rattle.json.specs.Token.{Token}
use Rattle.json.specs.Ascii as ascii
use Rattle.json.specs.Text.{content, plain}
use Rattle.json.specs.Word.{is_operator, is_space, ends_word, head, literal, number_before, after_number, word}
use Rattle.json.specs.Lex.{Lexeme, token, comma, colon, Class, quote, backslash, operator, space, other, class, operator_lexeme, string_token, Mode, between, in_word, in_string, in_escape, lex_byte, lex, Place, fresh, after_value, after_comma, after_key, begins_colon, may_begin, may_close, if_allowed, place_token, punctuate, tokens}
use Rattle.json.specs.Json as json
use Rattle.json.specs.Json.{Json, Items, Members, Parse, parse_map, after_end_array, read_key, items_step, members_step, items, members, value_with, value, if_last}
use Rattle.serde_json.specs.Data as values
use Rattle.serde_json.specs.Data.{Data}
use Rattle.std.specs.Prelude.{drop, slice_index, nat_lt, nat_le}
use Rattle.std.specs.Float.{binary64, float_is_finite}
use Rattle.std.specs.Float.Numeral.{minus, Parts, scan_numeral, numeral_digits, nearest_float}
use Rattle.std.proofs.lemmas.Bool.{and_parts, leb-true, ltb-true}
use Rattle.serde_json.specs.Read.{is_integer, float_of, number_from, number_of, of_json, of_items, of_members, read, max_depth}
use Rattle.yspec.specs.document.Reading.{json_of}
use Rattle.yspec.proofs.BasicLemmas.{of_either}
use Rattle.yspec.proofs.DocumentProofs.JsonTextLemmas.{IsTextIf, behind_ascii, content_text}
use Rattle.yspec.proofs.DocumentProofs.ExactLemmas.{IsBefore, turned, before_later, put_before}

-- ---- tokens

abbrev IsText : Token → Type 0
IsText Token.begin_object = Unit {0}
IsText Token.end_object = Unit {0}
IsText Token.begin_array = Unit {0}
IsText Token.end_array = Unit {0}
IsText (Token.key s) = IsUtf8 s
IsText (Token.string s) = IsUtf8 s
IsText (Token.number s) = Unit {0}
IsText (Token.boolean b) = Unit {0}
IsText Token.null = Unit {0}
IsText Token.bad = Unit {0}

abbrev LexemeIsText : Lexeme → Type 0
LexemeIsText (token t) = IsText t
LexemeIsText comma = Unit {0}
LexemeIsText colon = Unit {0}

abbrev Each : {A : Type 0} → (A → Type 0) → List A → Type 0
Each P [] = Unit {0}
Each P (x ∷ xs) = P x × Each P xs

-- what stands behind each byte of ASCII is UTF-8
abbrev HasTexts : List ℕ → Type 0
HasTexts [] = Unit {0}
HasTexts (x ∷ xs) = (x < 128 → IsUtf8 xs) × HasTexts xs

has_texts : (front xs : List ℕ) → IsUtf8 (front ++ xs) → HasTexts xs
has_texts front [] utf8 = tt
has_texts front (x ∷ xs) utf8 =
    (λ small. behind_ascii front x xs small utf8, has_texts (front ++ x ∷ []) xs (subst IsUtf8 (sym (append_assoc front (x ∷ []) xs)) utf8))

operator_text : (x : ℕ) → LexemeIsText (operator_lexeme x)
operator_text x =
    let fifth = cond (x == 44) comma colon in
    let fourth = cond (x == 93) (token Token.end_array) fifth in
    let third = cond (x == 91) (token Token.begin_array) fourth in
    let second = cond (x == 125) (token Token.end_object) third in
    of_either LexemeIsText (x == 123) (token Token.begin_object) second (λ _. tt)
    (λ _. of_either LexemeIsText (x == 125) (token Token.end_object) third (λ _. tt)
    (λ _. of_either LexemeIsText (x == 91) (token Token.begin_array) fourth (λ _. tt)
    (λ _. of_either LexemeIsText (x == 93) (token Token.end_array) fifth (λ _. tt)
    (λ _. of_either LexemeIsText (x == 44) comma colon (λ _. tt) (λ _. tt)))))

number_text : (t : List ℕ) (o : Option (List ℕ)) → IsText (number_before t o)
number_text t None = tt
number_text t (Some rest) = of_either IsText (ends_word rest) (Token.number (take (length t - length rest) t)) Token.bad (λ _. tt) (λ _. tt)

literal_text : (name t : List ℕ) (u : Token) → IsText u → IsText (literal name u t)
literal_text name t u is = of_either IsText (starts_with nat_eq t name && ends_word (drop (length name) t)) u Token.bad (λ _. is) (λ _. tt)

word_text : (t : List ℕ) → IsText (word t)
unfolding word
word_text t =
    let number = number_before t (after_number t) in
    let or_null = cond (head t == 110) (literal ascii.null_text Token.null t) number in
    let or_false = cond (head t == 102) (literal ascii.false_text (Token.boolean false) t) or_null in
    of_either IsText (head t == 116) (literal ascii.true_text (Token.boolean true) t) or_false (λ _. literal_text ascii.true_text t (Token.boolean true) tt)
    (λ _. of_either IsText (head t == 102) (literal ascii.false_text (Token.boolean false) t) or_null (λ _. literal_text ascii.false_text t (Token.boolean false) tt)
    (λ _. of_either IsText (head t == 110) (literal ascii.null_text Token.null t) number (λ _. literal_text ascii.null_text t Token.null tt)
    (λ _. number_text t (after_number t))))

string_text : (o : Option (List ℕ)) → IsTextIf o → IsText (string_token o)
string_text None is = tt
string_text (Some s) is = is

quote_is : (x : ℕ) → class x ≡ quote → x ≡ 34
quote_is x e = by (x == 34) refl e
  where
    by_more : (b o s : Bool) → cond b backslash (cond o operator (cond s space other)) ≡ quote → x ≡ 34
    by_more true o s e = absurd cc
    by_more false true s e = absurd cc
    by_more false false true e = absurd cc
    by_more false false false e = absurd cc

    by : (b : Bool) → (x == 34) ≡ b → cond b quote (cond (x == 92) backslash (cond (is_operator x) operator (cond (is_space x) space other))) ≡ quote → x ≡ 34
    by true is e = eqb-true x 34 is
    by false is e = by_more (x == 92) (is_operator x) (is_space x) e

byte_lexed : (m : Mode) (c : Class) (x : ℕ) (xs : List ℕ) (k : Mode → List Lexeme) → (c ≡ quote → IsUtf8 xs) → ((m : Mode) → Each LexemeIsText (k m))
    → Each LexemeIsText (lex_byte m c x xs k)
byte_lexed between quote x xs k utf8 rest = (string_text (content plain xs) (content_text xs (utf8 refl)), rest in_string)
byte_lexed between backslash x xs k utf8 rest = (tt, rest in_word)
byte_lexed between operator x xs k utf8 rest = (operator_text x, rest between)
byte_lexed between space x xs k utf8 rest = rest between
byte_lexed between other x xs k utf8 rest = (word_text (x ∷ xs), rest in_word)
byte_lexed in_word quote x xs k utf8 rest = rest in_word
byte_lexed in_word backslash x xs k utf8 rest = rest in_word
byte_lexed in_word operator x xs k utf8 rest = (operator_text x, rest between)
byte_lexed in_word space x xs k utf8 rest = rest between
byte_lexed in_word other x xs k utf8 rest = rest in_word
byte_lexed in_string quote x xs k utf8 rest = rest between
byte_lexed in_string backslash x xs k utf8 rest = rest in_escape
byte_lexed in_string operator x xs k utf8 rest = rest in_string
byte_lexed in_string space x xs k utf8 rest = rest in_string
byte_lexed in_string other x xs k utf8 rest = rest in_string
byte_lexed in_escape c x xs k utf8 rest = rest in_string

lexed : (xs : List ℕ) (m : Mode) → HasTexts xs → Each LexemeIsText (lex m xs)
unfolding lex
lexed [] m texts = tt
lexed (x ∷ xs) m texts =
    byte_lexed m (class x) x xs (λ next. lex next xs) (λ e. let is = quote_is x e in texts.0 (omega (arith, is))) (λ next. lexed xs next texts.1)

allowed : (b : Bool) (t : Token) (k : Place → List Token) (next : Place) → IsText t → ((p : Place) → Each IsText (k p)) → Each IsText (if_allowed b t k next)
allowed true t k next is rest = (is, rest next)
allowed false t k next is rest = (tt, tt)

placed : (p : Place) (t : Token) (b : Bool) (k : Place → List Token) → IsText t → ((p : Place) → Each IsText (k p)) → Each IsText (place_token p t b k)
placed p Token.begin_object b k is rest = allowed (may_begin p) Token.begin_object k fresh tt rest
placed p Token.end_object b k is rest = allowed (may_close p) Token.end_object k after_value tt rest
placed p Token.begin_array b k is rest = allowed (may_begin p) Token.begin_array k fresh tt rest
placed p Token.end_array b k is rest = allowed (may_close p) Token.end_array k after_value tt rest
placed p (Token.key s) b k is rest = (tt, tt)
placed p (Token.string s) true k is rest = allowed (may_begin p) (Token.key s) k after_key is rest
placed p (Token.string s) false k is rest = allowed (may_begin p) (Token.string s) k after_value is rest
placed p (Token.number s) b k is rest = allowed (may_begin p) (Token.number s) k after_value tt rest
placed p (Token.boolean c) b k is rest = allowed (may_begin p) (Token.boolean c) k after_value tt rest
placed p Token.null b k is rest = allowed (may_begin p) Token.null k after_value tt rest
placed p Token.bad b k is rest = (tt, tt)

punctuated : (ls : List Lexeme) (p : Place) → Each LexemeIsText ls → Each IsText (punctuate p ls)
unfolding punctuate
punctuated [] fresh is = tt
punctuated [] after_value is = tt
punctuated [] after_comma is = (tt, tt)
punctuated [] after_key is = (tt, tt)
punctuated (token t ∷ ls) fresh is = placed fresh t (begins_colon ls) (λ next. punctuate next ls) is.0 (λ next. punctuated ls next is.1)
punctuated (token t ∷ ls) after_value is = placed after_value t (begins_colon ls) (λ next. punctuate next ls) is.0 (λ next. punctuated ls next is.1)
punctuated (token t ∷ ls) after_comma is = placed after_comma t (begins_colon ls) (λ next. punctuate next ls) is.0 (λ next. punctuated ls next is.1)
punctuated (token t ∷ ls) after_key is = placed after_key t (begins_colon ls) (λ next. punctuate next ls) is.0 (λ next. punctuated ls next is.1)
punctuated (comma ∷ ls) fresh is = (tt, tt)
punctuated (comma ∷ ls) after_value is = punctuated ls after_comma is.1
punctuated (comma ∷ ls) after_comma is = (tt, tt)
punctuated (comma ∷ ls) after_key is = (tt, tt)
punctuated (colon ∷ ls) fresh is = (tt, tt)
punctuated (colon ∷ ls) after_value is = (tt, tt)
punctuated (colon ∷ ls) after_comma is = (tt, tt)
punctuated (colon ∷ ls) after_key is = punctuated ls fresh is.1

token_texts : (text : List ℕ) → IsUtf8 text → Each IsText (tokens text)
token_texts text utf8 = punctuated (lex between text) fresh (lexed text between (has_texts [] text utf8))

-- ---- JSON

abbrev mutual
  JsonHasTexts : Json → Type 0
  JsonHasTexts json.null = Unit {0}
  JsonHasTexts (json.boolean b) = Unit {0}
  JsonHasTexts (json.number s) = Unit {0}
  JsonHasTexts (json.string s) = IsUtf8 s
  JsonHasTexts (json.array js) = ItemsHaveTexts js
  JsonHasTexts (json.object ms) = MembersHaveTexts ms

  ItemsHaveTexts : Items → Type 0
  ItemsHaveTexts json.no_items = Unit {0}
  ItemsHaveTexts (json.item j js) = JsonHasTexts j × ItemsHaveTexts js

  MembersHaveTexts : Members → Type 0
  MembersHaveTexts json.no_members = Unit {0}
  MembersHaveTexts (json.member k j ms) = IsUtf8 k × JsonHasTexts j × MembersHaveTexts ms

-- what was parsed has texts, and so have the tokens behind it
abbrev Gives : {A : Type 0} → (A → Type 0) → Option (A × List Token) → Type 0
Gives P None = Unit {0}
Gives P (Some p) = P p.0 × Each IsText p.1

abbrev Keeps : {A : Type 0} → (A → Type 0) → Parse A → Type 0
Keeps P p = (ts : List Token) → Each IsText ts → Gives P (p ts)

mapped : {A B : Type 0} (P : A → Type 0) (Q : B → Type 0) (h : A → B) → ((a : A) → P a → Q (h a)) → (o : Option (A × List Token)) → Gives P o → Gives Q (parse_map h o)
mapped P Q h keeps None is = tt
mapped P Q h keeps (Some p) is = (keeps p.0 is.0, is.1)

and_more : {B : Type 0} (Q : B → Type 0) (h : Json → B → B) → ((j : Json) (b : B) → JsonHasTexts j → Q b → Q (h j b)) → (more : Parse B) → Keeps Q more
    → (o : Option (Json × List Token)) → Gives JsonHasTexts o → Gives Q (option_and_then (λ q. parse_map (h q.0) (more q.1)) o)
and_more Q h keeps more again None is = tt
and_more Q h keeps more again (Some q) is = mapped Q Q (h q.0) (λ b here. keeps q.0 b is.0 here) (more q.1) (again q.1 is.1)

module _ (p : Parse Json) (parsed : Keeps JsonHasTexts p) where
  array_ended : (ts : List Token) → Each IsText ts → (r : List Token) → after_end_array ts ≡ Some r → Each IsText r
  array_ended [] is r e = absurd cc
  array_ended (Token.begin_object ∷ ts) is r e = absurd cc
  array_ended (Token.end_object ∷ ts) is r e = absurd cc
  array_ended (Token.begin_array ∷ ts) is r e = absurd cc
  array_ended (Token.end_array ∷ ts) is r e = let same : ts ≡ r = cc in subst (Each IsText) same is.1
  array_ended (Token.key s ∷ ts) is r e = absurd cc
  array_ended (Token.string s ∷ ts) is r e = absurd cc
  array_ended (Token.number s ∷ ts) is r e = absurd cc
  array_ended (Token.boolean b ∷ ts) is r e = absurd cc
  array_ended (Token.null ∷ ts) is r e = absurd cc
  array_ended (Token.bad ∷ ts) is r e = absurd cc

  item_turn : (more : Parse Items) → Keeps ItemsHaveTexts more → (ts : List Token) → Each IsText ts → (o : Option (List Token)) → after_end_array ts ≡ o
      → Gives ItemsHaveTexts (items_step p more ts o)
  item_turn more again ts is (Some r) e = (tt, array_ended ts is r e)
  item_turn more again ts is None e = and_more ItemsHaveTexts json.item (λ j js here rest. (here, rest)) more again (p ts) (parsed ts is)

  items_parsed : (n : ℕ) → Keeps ItemsHaveTexts (items p n)
  unfolding items
  items_parsed zero ts is = tt
  items_parsed (suc n) ts is = item_turn (items p n) (items_parsed n) ts is (after_end_array ts) refl

  member_turn : (more : Parse Members) → Keeps MembersHaveTexts more → (ts : List Token) → Each IsText ts
      → Gives MembersHaveTexts (option_and_then (λ q. members_step p more q.0 q.1) (read_key ts))
  member_turn more again [] is = tt
  member_turn more again (Token.begin_object ∷ ts) is = tt
  member_turn more again (Token.end_object ∷ ts) is = (tt, is.1)
  member_turn more again (Token.begin_array ∷ ts) is = tt
  member_turn more again (Token.end_array ∷ ts) is = tt
  member_turn more again (Token.key k ∷ ts) is =
      and_more MembersHaveTexts (json.member k) (λ j ms here rest. (is.0, here, rest)) more again (p ts) (parsed ts is.1)
  member_turn more again (Token.string s ∷ ts) is = tt
  member_turn more again (Token.number s ∷ ts) is = tt
  member_turn more again (Token.boolean b ∷ ts) is = tt
  member_turn more again (Token.null ∷ ts) is = tt
  member_turn more again (Token.bad ∷ ts) is = tt

  members_parsed : (n : ℕ) → Keeps MembersHaveTexts (members p n)
  unfolding members
  members_parsed zero ts is = tt
  members_parsed (suc n) ts is = member_turn (members p n) (members_parsed n) ts is

one_level : (a : Parse Items) (o : Parse Members) → Keeps ItemsHaveTexts a → Keeps MembersHaveTexts o → Keeps JsonHasTexts (value_with a o)
one_level a o p q [] is = tt
one_level a o p q (Token.begin_object ∷ ts) is = mapped MembersHaveTexts JsonHasTexts json.object (λ ms here. here) (o ts) (q ts is.1)
one_level a o p q (Token.end_object ∷ ts) is = tt
one_level a o p q (Token.begin_array ∷ ts) is = mapped ItemsHaveTexts JsonHasTexts json.array (λ js here. here) (a ts) (p ts is.1)
one_level a o p q (Token.end_array ∷ ts) is = tt
one_level a o p q (Token.key s ∷ ts) is = tt
one_level a o p q (Token.string s ∷ ts) is = (is.0, is.1)
one_level a o p q (Token.number s ∷ ts) is = (tt, is.1)
one_level a o p q (Token.boolean b ∷ ts) is = (tt, is.1)
one_level a o p q (Token.null ∷ ts) is = (tt, is.1)
one_level a o p q (Token.bad ∷ ts) is = tt

value_parsed : (d : ℕ) → Keeps JsonHasTexts (value d)
unfolding value
value_parsed zero = one_level (λ ts. None) (λ ts. None) (λ ts is. tt) (λ ts is. tt)
value_parsed (suc d) = one_level (λ ts. items (value d) (length ts) ts) (λ ts. members (value d) (length ts) ts)
    (λ ts is. items_parsed (value d) (value_parsed d) (length ts) ts is) (λ ts is. members_parsed (value d) (value_parsed d) (length ts) ts is)

-- ---- values

abbrev pub IsOf64 : values.Num → Type 0
IsOf64 (values.unsigned n) = n < 2 ^ 64
IsOf64 (values.negative z) = (n : ℕ) × (z ≡ negsuc n) × (n < 2 ^ 63)
IsOf64 (values.float x) = Unit {0}

abbrev mutual
  pub IsRead : Data → Type 0
  IsRead values.null = Unit {0}
  IsRead (values.boolean b) = Unit {0}
  IsRead (values.number n) = IsOf64 n
  IsRead (values.string s) = IsUtf8 s
  IsRead (values.array ds) = ItemsAreRead ds
  IsRead (values.object ms) = MembersAreRead ms

  pub ItemsAreRead : values.Items → Type 0
  ItemsAreRead values.no_items = Unit {0}
  ItemsAreRead (values.item d ds) = IsRead d × ItemsAreRead ds

  pub MembersAreRead : values.Members → Type 0
  MembersAreRead values.no_members = Unit {0}
  MembersAreRead (values.member k d ms) = IsUtf8 k × IsRead d × IsBefore k ms × MembersAreRead ms

abbrev IfThere : {A : Type 0} → (A → Type 0) → Option A → Type 0
IfThere P None = Unit {0}
IfThere P (Some a) = P a

there_mapped : {A B : Type 0} (P : A → Type 0) (Q : B → Type 0) (h : A → B) → ((a : A) → P a → Q (h a)) → (o : Option A) → IfThere P o → IfThere Q (option_map h o)
there_mapped P Q h keeps None is = tt
there_mapped P Q h keeps (Some a) is = keeps a is

there_more : {A B : Type 0} (P : A → Type 0) (Q : B → Type 0) (h : A → Option B) → ((a : A) → P a → IfThere Q (h a)) → (o : Option A) → IfThere P o → IfThere Q (option_and_then h o)
there_more P Q h keeps None is = tt
there_more P Q h keeps (Some a) is = keeps a is

put_texts_at : (o : Ordering) (k l : List ℕ) (d e : Data) (ms : values.Members) → slice_cmp nat_cmp k l ≡ o → IsUtf8 k → IsRead d → MembersAreRead (values.member l e ms) → MembersAreRead (values.put k d ms)
    → MembersAreRead (match_ordering o (values.member k d (values.member l e ms)) (values.member l d ms) (values.member l e (values.put k d ms)))
put_texts_at Less k l d e ms is utf8 this these later =
    let behind = turned k l Less Greater is refl in (utf8, this, (behind, before_later k l ms behind these.2), these)
put_texts_at Equal k l d e ms is utf8 this these later = (these.0, this, these.2, these.3)
put_texts_at Greater k l d e ms is utf8 this these later = (these.0, these.1, put_before l k d ms is these.2, later)

put_texts : (k : List ℕ) (d : Data) (ms : values.Members) → IsUtf8 k → IsRead d → MembersAreRead ms → MembersAreRead (values.put k d ms)
put_texts k d values.no_members utf8 this these = (utf8, this, tt, tt)
put_texts k d (values.member l e ms) utf8 this these =
    put_texts_at (slice_cmp nat_cmp k l) k l d e ms refl utf8 this these (put_texts k d ms utf8 this these.3)

-- ---- numbers

float_of_64 : (sign : Bool) (p : Parts) → IfThere IsOf64 (float_of sign p)
float_of_64 sign p = by (float_is_finite (nearest_float binary64 sign p))
  where
    by : (b : Bool) → IfThere IsOf64 (cond b (Some (values.float (nearest_float binary64 sign p))) None)
    by true = tt
    by false = tt

below_zero : (n : ℕ) → 0 < n → n ≤ 2 ^ 63 → IsOf64 (values.negative (neg_ℤ (pos n)))
below_zero zero some few = absurd (omega (arith, some))
below_zero (suc n) some few = (n, refl, omega (arith, few))

from_64 : (sign : Bool) (p : Parts) → IfThere IsOf64 (number_from sign p)
from_64 false p = of_either (IfThere IsOf64) (is_integer p && nat_lt (numeral_digits p) (2 ^ 64)) (Some (values.unsigned (numeral_digits p))) (float_of false p)
    (λ e. ltb-true (numeral_digits p) (2 ^ 64) (and_parts (is_integer p) (nat_lt (numeral_digits p) (2 ^ 64)) e).1)
    (λ _. float_of_64 false p)
from_64 true p = of_either (IfThere IsOf64) (is_integer p && nat_lt 0 (numeral_digits p) && nat_le (numeral_digits p) (2 ^ 63))
    (Some (values.negative (neg_ℤ (pos (numeral_digits p))))) (float_of true p)
    (λ e.
    let parts = and_parts (is_integer p && nat_lt 0 (numeral_digits p)) (nat_le (numeral_digits p) (2 ^ 63)) e in
    let inner = and_parts (is_integer p) (nat_lt 0 (numeral_digits p)) parts.0 in
    below_zero (numeral_digits p) (ltb-true 0 (numeral_digits p) inner.1) (leb-true (numeral_digits p) (2 ^ 63) parts.1))
    (λ _. float_of_64 true p)

number_64 : (s : List ℕ) → IfThere IsOf64 (number_of s)
unfolding number_of
number_64 s = of_either (IfThere IsOf64) (slice_index s 0 == minus) (number_from true (scan_numeral (drop 1 s))) (number_from false (scan_numeral s))
    (λ _. from_64 true (scan_numeral (drop 1 s))) (λ _. from_64 false (scan_numeral s))

mutual
  json_texts : (j : Json) → JsonHasTexts j → IfThere IsRead (of_json j)
  json_texts json.null is = tt
  json_texts (json.boolean b) is = tt
  json_texts (json.number s) is = there_mapped IsOf64 IsRead values.number (λ n is. is) (number_of s) (number_64 s)
  json_texts (json.string s) is = is
  json_texts (json.array js) is = there_mapped ItemsAreRead IsRead values.array (λ ds here. here) (of_items js) (items_texts js is)
  json_texts (json.object ms) is = there_mapped MembersAreRead IsRead values.object (λ ms here. here) (of_members ms values.no_members) (members_texts ms values.no_members is tt)

  items_texts : (js : Items) → ItemsHaveTexts js → IfThere ItemsAreRead (of_items js)
  items_texts json.no_items is = tt
  items_texts (json.item j js) is = there_more IsRead ItemsAreRead (λ d. option_map (values.item d) (of_items js))
      (λ d here. there_mapped ItemsAreRead ItemsAreRead (values.item d) (λ ds rest. (here, rest)) (of_items js) (items_texts js is.1)) (of_json j) (json_texts j is.0)

  members_texts : (ms : Members) (found : values.Members) → MembersHaveTexts ms → MembersAreRead found → IfThere MembersAreRead (of_members ms found)
  members_texts json.no_members found is before = before
  members_texts (json.member k j ms) found is before = there_more IsRead MembersAreRead (λ d. of_members ms (values.put k d found))
      (λ d here. members_texts ms (values.put k d found) is.2 (put_texts k d found is.0 here before)) (of_json j) (json_texts j is.1)

last_texts : (o : Option (Json × List Token)) → Gives JsonHasTexts o → IfThere JsonHasTexts (option_and_then (λ p. if_last p.0 p.1) o)
last_texts None is = tt
last_texts (Some (j, [])) is = is.0
last_texts (Some (j, t ∷ ts)) is = tt

read_texts : (text : List ℕ) → IsUtf8 text → IfThere IsRead (read text)
read_texts text utf8 =
    there_more JsonHasTexts IsRead of_json json_texts (option_and_then (λ p. if_last p.0 p.1) (value max_depth (tokens text)))
    (last_texts (value max_depth (tokens text)) (value_parsed max_depth (tokens text) (token_texts text utf8)))

pub json_is_read : (text : List ℕ) (d : Data) → json_of text ≡ Some d → IsRead d
json_is_read text d is = subst (IfThere IsRead) is (by (is_utf8 text) refl)
  where
    by : (b : Bool) → is_utf8 text ≡ b → IfThere IsRead (cond b (read text) None)
    by true utf8 = read_texts text (IsUtf8-from_is_utf8 text utf8)
    by false utf8 = tt

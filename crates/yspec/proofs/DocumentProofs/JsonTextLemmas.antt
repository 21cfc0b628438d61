-- Strings of a JSON text that is UTF-8 are so too.
use Rattle.std.proofs.Common.{◌≡◌, ◌⊎◌, inl, inr, ℕ, zero, suc, ◌+◌, ◌<◌, ◌≤◌, Bool, true, false, cond, ◌&&◌, ◌||◌, ◌==◌, nat_lt, nat_le, List, [], ◌∷◌, ◌++◌, length, drop, get_or, Option, Some, None, option_and_then, IsUtf8, refl, sym, ap, ◌∙◌, subst, arith, append-nil, append_assoc, length-append, eqb-true, ltb-true, ltb-false}
use Rattle.std.proofs.lemmas.Bool.{and_parts, or_cases, ne_eqb, le-ltb, leb-true}
use Rattle.std.proofs.lemmas.List.{drop_at}
use Rattle.std.proofs.lemmas.Str.{IsUtf8-append, IsUtf8-nil, IsUtf8-encode, IsUtf8-drop, IsCharBoundary-after_ascii, encode_ascii, inside_one}
use Rattle.std.specs.Char.{digit_value, is_digit, encode_utf8}
use lib.Utf8.{scalar, scalars, encode, encodes}
use Rattle.json.specs.Text.{content, plain, after_backslash, after_u, after_high, prepend, code_unit, short_escape, is_high_surrogate, is_low_surrogate, surrogate_pair}
use Rattle.yspec.proofs.BasicLemmas.{ascii_text, of_either}

-- ---- bytes

-- what stands behind a byte of ASCII
pub behind_ascii : (front : List ℕ) (x : ℕ) (xs : List ℕ) → x < 128 → IsUtf8 (front ++ x ∷ xs) → IsUtf8 xs
behind_ascii front x xs small utf8 =
    let all = front ++ x ∷ xs in
    let long = length-append front (x ∷ xs) in
    let rest : drop (length front + 1) all ≡ xs =
    ap (drop (length front + 1)) (sym (append_assoc front (x ∷ []) xs)) ∙ drop_at (front ++ x ∷ []) xs (length front + 1) (length-append front (x ∷ [])) in
    let here : get_or all (length front) 0 ≡ x = at_end front in
    subst IsUtf8 rest (IsUtf8-drop all (length front + 1) utf8 (IsCharBoundary-after_ascii all (length front) utf8 (omega (arith, long)) (omega (arith, here, small))))
  where
    at_end : (front : List ℕ) → get_or (front ++ x ∷ xs) (length front) 0 ≡ x
    at_end [] = refl
    at_end (y ∷ front) = at_end front

-- ---- contents of strings

abbrev pub IsTextIf : Option (List ℕ) → Type 0
IsTextIf None = Unit {0}
IsTextIf (Some s) = IsUtf8 s

prepended : (bytes : List ℕ) (o : Option (List ℕ)) → IsUtf8 bytes → IsTextIf o → IsTextIf (prepend bytes o)
prepended bytes None first rest = tt
prepended bytes (Some s) first rest = IsUtf8-append bytes s first rest

-- one byte that an escape of one byte stands for
abbrev Short : ℕ → Option ℕ → Type 0
Short x None = Unit {0}
Short x (Some c) = (x < 128) × (c < 128)

short : (x : ℕ) → Short x (short_escape x)
unfolding short_escape
short x =
    of_either (Short x) ((x == 34) || (x == 92) || (x == 47)) (Some x) _ (λ e. let small = one_of e in (small, small))
    (λ _. of_either (Short x) (x == 98) (Some 8) _ (λ e. (omega (arith, eqb-true x 98 e), omega arith))
    (λ _. of_either (Short x) (x == 102) (Some 12) _ (λ e. (omega (arith, eqb-true x 102 e), omega arith))
    (λ _. of_either (Short x) (x == 110) (Some 10) _ (λ e. (omega (arith, eqb-true x 110 e), omega arith))
    (λ _. of_either (Short x) (x == 114) (Some 13) _ (λ e. (omega (arith, eqb-true x 114 e), omega arith))
    (λ _. of_either (Short x) (x == 116) (Some 9) None (λ e. (omega (arith, eqb-true x 116 e), omega arith)) (λ _. tt))))))
  where
    either_of : ((x == 34) ≡ true) ⊎ ((x == 92) ≡ true) → x < 128
    either_of (inl e) = omega (arith, eqb-true x 34 e)
    either_of (inr e) = omega (arith, eqb-true x 92 e)

    any_of : (((x == 34) || (x == 92)) ≡ true) ⊎ ((x == 47) ≡ true) → x < 128
    any_of (inl e) = either_of (or_cases _ _ e)
    any_of (inr e) = omega (arith, eqb-true x 47 e)

    one_of : ((x == 34) || (x == 92) || (x == 47)) ≡ true → x < 128
    one_of e = any_of (or_cases _ _ e)

-- four hex digits
hex : (d : ℕ) → is_digit d 16 ≡ true → (d < 128) × (digit_value d < 16)
hex d e = let small : digit_value d < 16 = ltb-true _ _ e in (grind arith, small)

record Unit16 (a b c d u : ℕ) : Type 0 where
  first : a < 128
  second : b < 128
  third : c < 128
  fourth : d < 128
  small : u < 65536

abbrev Spelt : ℕ → ℕ → ℕ → ℕ → Option ℕ → Type 0
Spelt a b c d None = Unit {0}
Spelt a b c d (Some u) = Unit16 a b c d u

spelt : (a b c d : ℕ) → Spelt a b c d (code_unit a b c d)
unfolding code_unit
spelt a b c d = of_either (Spelt a b c d) (is_digit a 16 && is_digit b 16 && is_digit c 16 && is_digit d 16) (Some _) None
    (λ e.
    let three = and_parts (is_digit a 16 && is_digit b 16 && is_digit c 16) (is_digit d 16) e in
    let two = and_parts (is_digit a 16 && is_digit b 16) (is_digit c 16) three.0 in
    let one = and_parts (is_digit a 16) (is_digit b 16) two.0 in
    let x = hex a one.0 in let y = hex b one.1 in let z = hex c two.1 in let w = hex d three.1 in
    let p = x.1 in let q = y.1 in let r = z.1 in let s = w.1 in
    record { first = x.0; second = y.0; third = z.0; fourth = w.0; small = omega (arith, p, q, r, s) })
    (λ _. tt)

-- a code unit that is no surrogate, and two that are a pair
lone : (u : ℕ) → u < 65536 → is_high_surrogate u ≡ false → is_low_surrogate u ≡ false → scalar u ≡ true
lone u small high low = grind arith

paired : (h l : ℕ) → is_high_surrogate h ≡ true → is_low_surrogate l ≡ true → scalar (surrogate_pair h l) ≡ true
paired h l high low =
    let one = and_parts (nat_le 55296 h) (nat_lt h 56320) high in let two = and_parts (nat_le 56320 l) (nat_lt l 57344) low in
    let a = leb-true 55296 h one.0 in let b = ltb-true h 56320 one.1 in let c = leb-true 56320 l two.0 in let d = ltb-true l 57344 two.1 in
    far (surrogate_pair h l) (omega (arith, a, c)) (omega (arith, a, b, c, d))
  where
    far : (p : ℕ) → 65536 ≤ p → p < 1114112 → scalar p ≡ true
    far p least most = grind arith

-- bytes behind the first, where shorter texts are known to be right
module _ (n : ℕ) (again : (xs : List ℕ) → length xs ≤ n → IsUtf8 xs → IsTextIf (content plain xs)) where
  second_half : (h : ℕ) (xs : List ℕ) → is_high_surrogate h ≡ true → length xs ≤ n → IsUtf8 xs → IsTextIf (content (after_high h) xs)
  unfolding content
  second_half h [] high few utf8 = tt
  second_half h (s ∷ []) high few utf8 = tt
  second_half h (s ∷ t ∷ []) high few utf8 = tt
  second_half h (s ∷ t ∷ a ∷ []) high few utf8 = tt
  second_half h (s ∷ t ∷ a ∷ b ∷ []) high few utf8 = tt
  second_half h (s ∷ t ∷ a ∷ b ∷ c ∷ []) high few utf8 = tt
  second_half h (s ∷ t ∷ a ∷ b ∷ c ∷ d ∷ xs) high few utf8 =
      of_either IsTextIf ((s == 92) && (t == 117)) _ None (λ _. by (code_unit a b c d) (spelt a b c d)) (λ _. tt)
    where
      by : (o : Option ℕ) → Spelt a b c d o
          → IsTextIf (option_and_then (λ l. cond (is_low_surrogate l) (prepend (encode_utf8 (surrogate_pair h l)) (content plain xs)) None) o)
      by None is = tt
      by (Some l) is = of_either IsTextIf (is_low_surrogate l) _ None
          (λ low. prepended (encode (surrogate_pair h l)) (content plain xs) (IsUtf8-encode (surrogate_pair h l) (paired h l high low))
          (again xs (omega (arith, few)) (behind_ascii (s ∷ t ∷ a ∷ b ∷ c ∷ []) d xs is.fourth utf8)))
          (λ _. tt)

  behind_u : (xs : List ℕ) → length xs ≤ n → IsUtf8 xs → IsTextIf (content after_u xs)
  unfolding content
  behind_u [] few utf8 = tt
  behind_u (a ∷ []) few utf8 = tt
  behind_u (a ∷ b ∷ []) few utf8 = tt
  behind_u (a ∷ b ∷ c ∷ []) few utf8 = tt
  behind_u (a ∷ b ∷ c ∷ d ∷ xs) few utf8 = by (code_unit a b c d) (spelt a b c d)
    where
      by : (o : Option ℕ) → Spelt a b c d o
          → IsTextIf (option_and_then (λ u. cond (is_high_surrogate u) (content (after_high u) xs) (cond (is_low_surrogate u) None (prepend (encode_utf8 u) (content plain xs)))) o)
      by None is = tt
      by (Some u) is =
          let rest = behind_ascii (a ∷ b ∷ c ∷ []) d xs is.fourth utf8 in
          of_either IsTextIf (is_high_surrogate u) (content (after_high u) xs) _
          (λ high. second_half u xs high (omega (arith, few)) rest)
          (λ other. of_either IsTextIf (is_low_surrogate u) None _ (λ _. tt)
          (λ lower. prepended (encode u) (content plain xs) (IsUtf8-encode u (lone u is.small other lower)) (again xs (omega (arith, few)) rest)))

  behind_backslash : (xs : List ℕ) → length xs ≤ n → IsUtf8 xs → IsTextIf (content after_backslash xs)
  unfolding content
  behind_backslash [] few utf8 = tt
  behind_backslash (x ∷ xs) few utf8 =
      of_either IsTextIf (x == 117) (content after_u xs) _
      (λ e. behind_u xs (omega (arith, few)) (behind_ascii [] x xs (omega (arith, eqb-true x 117 e)) utf8))
      (λ _. by (short_escape x) (short x))
    where
      by : (o : Option ℕ) → Short x o → IsTextIf (option_and_then (λ c. prepend (c ∷ []) (content plain xs)) o)
      by None is = tt
      by (Some c) is = prepended (c ∷ []) (content plain xs) (ascii_text c is.1) (again xs (omega (arith, few)) (behind_ascii [] x xs is.0 utf8))

  ascii_first : (x : ℕ) (xs : List ℕ) → x < 128 → length xs ≤ n → IsUtf8 (x ∷ xs) → IsTextIf (content plain (x ∷ xs))
  unfolding content
  ascii_first x xs small few utf8 =
      let rest = behind_ascii [] x xs small utf8 in
      of_either IsTextIf (x == 34) (Some []) _ (λ _. IsUtf8-nil)
      (λ _. of_either IsTextIf (x == 92) (content after_backslash xs) _ (λ _. behind_backslash xs few rest)
      (λ _. of_either IsTextIf (nat_lt x 32) None _ (λ _. tt) (λ _. prepended (x ∷ []) (content plain xs) (ascii_text x small) (again xs few rest))))

-- ---- characters of several bytes

prepend_none : (o : Option (List ℕ)) → o ≡ prepend [] o
prepend_none None = refl
prepend_none (Some s) = refl

prepend_more : (b : ℕ) (bs : List ℕ) (o : Option (List ℕ)) → prepend (b ∷ []) (prepend bs o) ≡ prepend (b ∷ bs) o
prepend_more b bs None = refl
prepend_more b bs (Some s) = refl

high_passed : (bs r : List ℕ) → ((k : ℕ) → k < length bs → 128 ≤ get_or bs k 0) → content plain (bs ++ r) ≡ prepend bs (content plain r)
unfolding content
high_passed [] r high = prepend_none (content plain r)
high_passed (b ∷ bs) r high =
    let first : 128 ≤ b = high 0 (omega arith) in
    rw (ne_eqb b 34 (λ e. omega (arith, first, e)), ne_eqb b 92 (λ e. omega (arith, first, e)), le-ltb b 32 (omega (arith, first)))
    (ap (prepend (b ∷ [])) (high_passed bs r (λ k few. high (suc k) (omega (arith, few)))) ∙ prepend_more b bs (content plain r))

some_bytes : (c : ℕ) → 0 < length (encode c)
unfolding encode
some_bytes c =
    of_either (λ (bs : List ℕ). 0 < length bs) (nat_lt c 128) _ _ (λ _. omega arith)
    (λ _. of_either (λ (bs : List ℕ). 0 < length bs) (nat_lt c 2048) _ _ (λ _. omega arith)
    (λ _. of_either (λ (bs : List ℕ). 0 < length bs) (nat_lt c 65536) _ _ (λ _. omega arith) (λ _. omega arith)))

high_bytes : (c : ℕ) → 128 ≤ c → (k : ℕ) → k < length (encode c) → 128 ≤ get_or (encode c) k 0
high_bytes c large k few = by (nat_lt (get_or (encode c) k 0) 128) refl
  where
    by : (b : Bool) → nat_lt (get_or (encode c) k 0) 128 ≡ b → 128 ≤ get_or (encode c) k 0
    by true is = let low = ltb-true _ _ is in let same = inside_one c [] (encode c) k (sym (append-nil (encode c))) few low in absurd (omega (arith, low, same, large))
    by false is = ltb-false _ _ is

no_content : IsTextIf (content plain [])
unfolding content
no_content = tt

first_char : (n : ℕ) → ((xs : List ℕ) → length xs ≤ n → IsUtf8 xs → IsTextIf (content plain xs))
    → (cs xs : List ℕ) → length xs ≤ suc n → scalars cs ≡ true → encodes cs ≡ xs → IsTextIf (content plain xs)
first_char n again [] xs few are is = subst (λ (ys : List ℕ). IsTextIf (content plain ys)) is no_content
first_char n again (c ∷ cs) xs few are is = subst (λ (ys : List ℕ). IsTextIf (content plain ys)) is (by (nat_lt c 128) refl)
  where
    rest : IsUtf8 (encodes cs)
    rest = (cs, ((and_parts (scalar c) (scalars cs) are).1, refl))

    fewer : length (encodes cs) ≤ n
    fewer = let e = ap (λ (ys : List ℕ). length ys) is in let long = length-append (encode c) (encodes cs) in let some = some_bytes c in omega (arith, e, long, some, few)

    by : (b : Bool) → nat_lt c 128 ≡ b → IsTextIf (content plain (encode c ++ encodes cs))
    by true is =
        let small = ltb-true c 128 is in
        let one = encode_ascii c small in
        subst (λ (bs : List ℕ). IsTextIf (content plain (bs ++ encodes cs))) (sym one)
        (ascii_first n again c (encodes cs) small fewer (IsUtf8-append (c ∷ []) (encodes cs) (ascii_text c small) rest))
    by false is =
        let large = ltb-false c 128 is in
        subst IsTextIf (sym (high_passed (encode c) (encodes cs) (high_bytes c large)))
        (prepended (encode c) (content plain (encodes cs)) (IsUtf8-encode c (and_parts (scalar c) (scalars cs) are).0) (again (encodes cs) fewer rest))

content_within : (n : ℕ) (xs : List ℕ) → length xs ≤ n → IsUtf8 xs → IsTextIf (content plain xs)
content_within n [] few utf8 = no_content
content_within zero (x ∷ xs) few utf8 = absurd (omega (arith, few))
content_within (suc n) (x ∷ xs) few utf8 = first_char n (content_within n) utf8.0 (x ∷ xs) few utf8.1.0 utf8.1.1

pub content_text : (xs : List ℕ) → IsUtf8 xs → IsTextIf (content plain xs)
content_text xs utf8 = content_within (length xs) xs (omega arith) utf8

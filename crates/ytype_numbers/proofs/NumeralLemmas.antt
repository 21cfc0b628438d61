-- Numbers from 2 ^ 64 on may be taken for 2 ^ 64, which no type has either.
use Rattle.std.proofs.Common.{◌≡◌, ℕ, ◌+◌, ◌*◌, ◌^◌, ◌<◌, ◌≤◌, min, ℤ, pos, neg_ℤ, ◌<ℤ◌, Bool, true, false, ◌&&◌, cond, ltb, [], ◌∷◌, Option, Some, None, refl, sym, ap, ◌∙◌, arith, inl, inr, length, get_or, drop}
use Rattle.std.specs.Prelude.{option_map, int_le}
use Rattle.std.specs.Char.{digit_value}
use Rattle.std.proofs.lemmas.Int.{ints}
use Rattle.std.proofs.Math.Nat.{mul-le-mul_left, mul-le-mul_right}
use Rattle.std.proofs.lemmas.Bool.{cases_lt, lt-ltb}
use Rattle.std.proofs.lemmas.List.{at_drop_more}
use Rattle.yspec.specs.text.Text.{Text}
use Rattle.yspec.specs.types.Ranges.{Part, lies_in}
use Rattle.yspec.specs.types.Numerals.{digits_from, number_of_sign, added}
use Rattle.ytype_numbers.specs.Words.{capped, kept_in, IsNarrow}

pub capped_more : (base n d : ℕ) → 1 ≤ base → min (min n (2 ^ 64) * base + d) (2 ^ 64) ≡ min (n * base + d) (2 ^ 64)
capped_more base n d one = elim (cases_lt n (2 ^ 64)) [
  | inl lt ↦ let e : min n (2 ^ 64) ≡ n = omega arith in rw e refl
  | inr le ↦ let e : min n (2 ^ 64) ≡ 2 ^ 64 = omega arith in
      let a : 2 ^ 64 * 1 ≤ 2 ^ 64 * base = mul-le-mul_left (2 ^ 64) one in
      let b : 2 ^ 64 * base ≤ n * base = mul-le-mul_right base le in
      rw e (omega (arith, a, b))
]

by_digit : (b : Bool) (base k m : ℕ) (cs : Text) → min k (2 ^ 64) ≡ min m (2 ^ 64) → ((x : ℕ) → capped (digits_from base (min x (2 ^ 64)) cs) ≡ capped (digits_from base x cs))
    → capped (cond b (digits_from base k cs) None) ≡ capped (cond b (digits_from base m cs) None)
by_digit true base k m cs e again = sym (again k) ∙ ap (λ (x : ℕ). capped (digits_from base x cs)) e ∙ again m
by_digit false base k m cs e again = refl

-- it may be so at any step
pub capped-digits_from : (base n : ℕ) (ds : Text) → 1 ≤ base → capped (digits_from base (min n (2 ^ 64)) ds) ≡ capped (digits_from base n ds)
capped-digits_from base n [] one = ap Some (omega arith)
capped-digits_from base n (c ∷ cs) one =
    by_digit (ltb (digit_value c) base) base (min n (2 ^ 64) * base + digit_value c) (n * base + digit_value c) cs
    (capped_more base n (digit_value c) one) (λ k. capped-digits_from base k cs one)

-- a step of the loop over digits
pub digits_step : (base n i digit m : ℕ) (ds : Text) (t : Option ℕ) → 1 ≤ base → i < length ds → digit ≡ digit_value (get_or ds i 0) → digit < base
    → m ≡ min (n * base + digit) (2 ^ 64) → capped (digits_from base n (drop i ds)) ≡ t → capped (digits_from base m (drop (i + 1) ds)) ≡ t
digits_step base n i digit m ds t one lt is below made so_far =
    let c : ℕ = get_or ds i 0 in
    let rest : Text = drop (i + 1) ds in
    let test : ltb (digit_value c) base ≡ true = lt-ltb _ _ (omega arith) in
    let opened = at_drop_more (λ (xs : Text). capped (digits_from base n xs)) ds i 0 lt in
    let chosen : capped (cond (ltb (digit_value c) base) (digits_from base (n * base + digit_value c) rest) None) ≡ capped (digits_from base (n * base + digit_value c) rest) = rw test refl in
    rw (made, is) (capped-digits_from base (n * base + digit_value c) rest one ∙ sym chosen ∙ sym opened ∙ so_far)

above : (a b : ℤ) → b <ℤ a → int_le a b ≡ false
above a b h = grind (arith, ints)

both_low : (a b : Bool) → a ≡ false → (a && b) ≡ false
both_low true b e = absurd cc
both_low false true e = refl
both_low false false e = refl

both_high : (a b : Bool) → b ≡ false → (a && b) ≡ false
both_high a true e = absurd cc
both_high true false e = refl
both_high false false e = refl

kept_none : (p : Part) (z : ℤ) → lies_in z p ≡ false → kept_in p (Some z) ≡ None
kept_none p z e = ap (λ (b : Bool). cond b (Some z) None) e

outside : (p : Part) (b : Bool) (n : ℕ) → IsNarrow p → 2 ^ 64 ≤ n → kept_in p (Some (number_of_sign b n)) ≡ None
outside p true n narrow le =
    let e : int_le p.low (neg_ℤ (pos n)) ≡ false = above p.low (neg_ℤ (pos n)) (omega (arith, ints, narrow.low)) in
    kept_none p (neg_ℤ (pos n)) (both_low (int_le p.low (neg_ℤ (pos n))) (int_le (neg_ℤ (pos n)) p.high) e)
outside p false n narrow le =
    let e : int_le (pos n) p.high ≡ false = above (pos n) p.high (omega (arith, ints, narrow.high)) in
    kept_none p (pos n) (both_high (int_le p.low (pos n)) (int_le (pos n) p.high) e)

-- where a part is narrow, it tells no capped number from its own
pub kept_capped : (p : Part) (b : Bool) (o : Option ℕ) → IsNarrow p → kept_in p (option_map (number_of_sign b) (capped o)) ≡ kept_in p (option_map (number_of_sign b) o)
kept_capped p b None narrow = refl
kept_capped p b (Some n) narrow = elim (cases_lt n (2 ^ 64)) [
  | inl lt ↦ let e : min n (2 ^ 64) ≡ n = omega arith in rw e refl
  | inr le ↦ let e : min n (2 ^ 64) ≡ 2 ^ 64 = omega arith in rw e (outside p b (2 ^ 64) narrow (omega arith) ∙ sym (outside p b n narrow le))
]

pub capped-times : (o : Option ℕ) (k : ℕ) → 0 < k → capped (option_map (λ n. n * k) (capped o)) ≡ capped (option_map (λ n. n * k) o)
capped-times None k h = refl
capped-times (Some n) k h = ap Some (grind (arith, capped_more k n 0 h))

pub capped-added : (a b : Option ℕ) → capped (added (capped a) (capped b)) ≡ capped (added a b)
capped-added None b = refl
capped-added (Some m) None = refl
capped-added (Some m) (Some n) = ap Some (omega arith)

pub ruleset caps = (kept_capped, capped-times, capped-added)

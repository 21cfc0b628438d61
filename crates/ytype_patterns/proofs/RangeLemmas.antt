-- The one row of ranges that rise with gaps and hold the characters of a set.
use Rattle.std.specs.Prelude.{◌≡◌, ℕ, zero, suc, ◌+◌, ◌≤◌, ◌==◌, Bool, true, false, ◌&&◌, ◌||◌, nat_le, nat_lt, List, [], ◌∷◌, if◌then◌else◌, refl}
use Rattle.std.proofs.Common.{sym, ◌∙◌, ap, arith, true≢false}
use Rattle.std.proofs.lemmas.Bool.{and_parts, and_from}
use Rattle.std.proofs.lemmas.Bool.Decides.{nat_tests}
use Rattle.regex_class.specs.Ranges.{Range, in_range, in_ranges, fits_from, rises_from, IsCanonical, HasExactly}
use Rattle.regex_class.proofs.RangesLemmas.{or_assoc, fits_from-true, le-fits_from, same_members-same}
use Rattle.yspec_patterns.specs.Sets.{Set}
use Rattle.ytype_patterns.specs.Engine.{extended, ranges_within, ranges_of}

same_tests : (x y : Bool) → (x ≡ true → y ≡ true) → (y ≡ true → x ≡ true) → x ≡ y
same_tests true true f g = refl
same_tests true false f g = sym (f refl)
same_tests false true f g = g refl
same_tests false false f g = refl

and_false : (x : Bool) → (x && false) ≡ false
and_false true = refl
and_false false = refl

-- ---- they rise

rises_earlier : (n m : ℕ) (rs : List Range) → m ≤ n → rises_from n rs ≡ true → rises_from m rs ≡ true
unfolding rises_from
rises_earlier n m [] h e = refl
rises_earlier n m (r ∷ rs) h e =
    let parts = and_parts (fits_from n r) (rises_from (r.1 + 2) rs) e in
    let fits = fits_from-true n r parts.0 in
    and_from (fits_from m r) (rises_from (r.1 + 2) rs) (le-fits_from m r (omega (arith, h, fits.0)) fits.1 fits.2) parts.1

joined_rises : (b : Bool) (low : ℕ) (r : Range) (rs : List Range) → (r.0 == low + 1) ≡ b → low ≤ 0x10_FFFF → rises_from (low + 1) (r ∷ rs) ≡ true →
    rises_from low (if b then (low, r.1) ∷ rs else (low, low) ∷ r ∷ rs) ≡ true
unfolding rises_from
joined_rises true low r rs is bound e =
    let parts = and_parts (fits_from (low + 1) r) (rises_from (r.1 + 2) rs) e in
    let fits = fits_from-true (low + 1) r parts.0 in
    and_from (fits_from low (low, r.1)) (rises_from (r.1 + 2) rs) (le-fits_from low (low, r.1) (omega arith) (omega (arith, fits.0, fits.1)) fits.2) parts.1
joined_rises false low r rs is bound e =
    let parts = and_parts (fits_from (low + 1) r) (rises_from (r.1 + 2) rs) e in
    let fits = fits_from-true (low + 1) r parts.0 in
    let past : low + 2 ≤ r.0 = grind (arith, nat_tests, is, fits.0) in
    and_from (fits_from low (low, low)) (rises_from (low + 2) (r ∷ rs)) (le-fits_from low (low, low) (omega arith) (omega arith) bound)
    (and_from (fits_from (low + 2) r) (rises_from (r.1 + 2) rs) (le-fits_from (low + 2) r past fits.1 fits.2) parts.1)

extended_rises : (low : ℕ) (rs : List Range) → low ≤ 0x10_FFFF → rises_from (low + 1) rs ≡ true → rises_from low (extended low rs) ≡ true
unfolding rises_from
extended_rises low [] bound e = and_from (fits_from low (low, low)) true (le-fits_from low (low, low) (omega arith) (omega arith) bound) refl
extended_rises low (r ∷ rs) bound e = joined_rises (r.0 == low + 1) low r rs refl bound e

within_rises : (set : Set) (low n : ℕ) → low + n ≤ 0x11_0000 → rises_from low (ranges_within set low n) ≡ true
unfolding rises_from ranges_within
within_rises set low zero bound = refl
within_rises set low (suc n) bound =
    by (set low) low (ranges_within set (low + 1) n) (omega (arith, bound)) (within_rises set (low + 1) n (omega (arith, bound)))
  where
    by : (b : Bool) (low : ℕ) (rs : List Range) → low ≤ 0x10_FFFF → rises_from (low + 1) rs ≡ true → rises_from low (if b then extended low rs else rs) ≡ true
    by true low rs bound e = extended_rises low rs bound e
    by false low rs bound e = rises_earlier (low + 1) low rs (omega arith) e

-- ---- their members

single_range : (low c : ℕ) → in_range (low, low) c ≡ (c == low)
unfolding in_range
single_range low c = same_tests (nat_le low c && nat_le c low) (c == low) (λ h. grind (arith, nat_tests, h)) (λ h. grind (arith, nat_tests, h))

joined_range : (low start high c : ℕ) → start ≡ low + 1 → start ≤ high → in_range (low, high) c ≡ ((c == low) || in_range (start, high) c)
unfolding in_range
joined_range low start high c is fits = same_tests (nat_le low c && nat_le c high) ((c == low) || (nat_le start c && nat_le c high))
    (λ h. grind (arith, nat_tests, h, is, fits)) (λ h. grind (arith, nat_tests, h, is, fits))

joined_members : (b : Bool) (low : ℕ) (r : Range) (rs : List Range) (c : ℕ) → (r.0 == low + 1) ≡ b → r.0 ≤ r.1 →
    in_ranges (if b then (low, r.1) ∷ rs else (low, low) ∷ r ∷ rs) c ≡ ((c == low) || (in_range r c || in_ranges rs c))
unfolding in_ranges
joined_members true low r rs c is fits =
    let start : r.0 ≡ low + 1 = grind (arith, nat_tests, is) in
    ap (λ x. x || in_ranges rs c) (joined_range low r.0 r.1 c start fits) ∙ sym (or_assoc (c == low) (in_range r c) (in_ranges rs c))
joined_members false low r rs c is fits = ap (λ x. x || (in_range r c || in_ranges rs c)) (single_range low c)

extended_members : (low : ℕ) (rs : List Range) (c : ℕ) → rises_from (low + 1) rs ≡ true → in_ranges (extended low rs) c ≡ ((c == low) || in_ranges rs c)
unfolding in_ranges rises_from
extended_members low [] c e = ap (λ x. x || false) (single_range low c)
extended_members low (r ∷ rs) c e =
    let parts = and_parts (fits_from (low + 1) r) (rises_from (r.1 + 2) rs) e in
    joined_members (r.0 == low + 1) low r rs c refl (fits_from-true (low + 1) r parts.0).1

-- the numbers from one on, so many
abbrev is_within : ℕ → ℕ → ℕ → Bool
is_within low n c = nat_le low c && nat_lt c (low + n)

within_none : (low c : ℕ) → is_within low 0 c ≡ false
within_none low c = same_tests (is_within low 0 c) false (λ h. grind (arith, nat_tests, h)) (λ h. absurd (true≢false (sym h)))

within_more : (low n c : ℕ) → (c == low) ≡ false → is_within (low + 1) n c ≡ is_within low (suc n) c
within_more low n c e = same_tests (is_within (low + 1) n c) (is_within low (suc n) c) (λ h. grind (arith, nat_tests, h, e)) (λ h. grind (arith, nat_tests, h, e))

within_first : (low n c : ℕ) → (c == low) ≡ true → is_within low (suc n) c ≡ true
within_first low n c e = grind (arith, nat_tests, e)

same_number : (low c : ℕ) → (c == low) ≡ true → c ≡ low
same_number low c e = grind (arith, nat_tests, e)

step_taken : (b : Bool) (set : Set) (low n c : ℕ) → (c == low) ≡ b → set low ≡ true → (b || (is_within (low + 1) n c && set c)) ≡ (is_within low (suc n) c && set c)
step_taken true set low n c e is = sym (and_from (is_within low (suc n) c) (set c) (within_first low n c e) (ap set (same_number low c e) ∙ is))
step_taken false set low n c e is = ap (λ b. b && set c) (within_more low n c e)

step_left : (b : Bool) (set : Set) (low n c : ℕ) → (c == low) ≡ b → set low ≡ false → (is_within (low + 1) n c && set c) ≡ (is_within low (suc n) c && set c)
step_left true set low n c e is =
    let out = ap set (same_number low c e) ∙ is in
    ap (λ b. is_within (low + 1) n c && b) out ∙ (and_false (is_within (low + 1) n c) ∙ sym (ap (λ b. is_within low (suc n) c && b) out ∙ and_false (is_within low (suc n) c)))
step_left false set low n c e is = ap (λ b. b && set c) (within_more low n c e)

within_members : (set : Set) (low n c : ℕ) → low + n ≤ 0x11_0000 → in_ranges (ranges_within set low n) c ≡ (is_within low n c && set c)
unfolding in_ranges ranges_within
within_members set low zero c bound = sym (ap (λ b. b && set c) (within_none low c))
within_members set low (suc n) c bound =
    by (set low) set low n c refl (within_rises set (low + 1) n (omega (arith, bound))) (within_members set (low + 1) n c (omega (arith, bound)))
  where
    by : (b : Bool) (set : Set) (low n c : ℕ) → set low ≡ b → rises_from (low + 1) (ranges_within set (low + 1) n) ≡ true →
        in_ranges (ranges_within set (low + 1) n) c ≡ (is_within (low + 1) n c && set c) →
        in_ranges (if b then extended low (ranges_within set (low + 1) n) else ranges_within set (low + 1) n) c ≡ (is_within low (suc n) c && set c)
    by true set low n c is rise e =
        extended_members low (ranges_within set (low + 1) n) c rise ∙ (ap (λ x. (c == low) || x) e ∙ step_taken (c == low) set low n c refl is)
    by false set low n c is rise e = e ∙ step_left (c == low) set low n c refl is

-- ---- of a set

pub ranges_of_rise : (set : Set) → IsCanonical (ranges_of set)
unfolding ranges_of
ranges_of_rise set = within_rises set 0 0x11_0000 (omega arith)

pub ranges_of_exactly : (set : Set) → HasExactly (ranges_of set) set
unfolding ranges_of
ranges_of_exactly set c bound =
    let inside : is_within 0 0x11_0000 c ≡ true = grind (arith, nat_tests, bound) in
    within_members set 0 0x11_0000 c (omega arith) ∙ ap (λ b. b && set c) inside

-- there is no other
pub canonical_is : (rs : List Range) → IsCanonical rs → rs ≡ ranges_of (in_ranges rs)
canonical_is rs canonical = same_members-same rs (ranges_of (in_ranges rs)) canonical (ranges_of_rise (in_ranges rs)) (λ c bound. sym (ranges_of_exactly (in_ranges rs) c bound))

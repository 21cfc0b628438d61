-- Ranges of a class as they are collected.
use Rattle.std.specs.Prelude.{◌≡◌, ℕ, ◌≤◌, Bool, true, false, ◌&&◌, ◌||◌, List, [], ◌∷◌, ◌++◌, Option, Some, None, refl}
use Rattle.std.specs.Global.{Vec}
use Rattle.std.proofs.Common.{sym, ◌∙◌, ap, arith, le-leb}
use Rattle.std.proofs.Math.Path.{fun_ext}
use Rattle.std.proofs.lemmas.Bool.Decides.{nat_tests}
use Rattle.regex_class.specs.Ranges.{Range, in_range, in_ranges, IsCanonical, HasExactly}
use Rattle.regex_class.proofs.RangesLemmas.{in_ranges-append, or-false}
use Rattle.yspec_patterns.specs.Sets.{Set, is_character, within, any_of}
use Rattle.yspec_patterns.specs.Classes.{with_set}
use Rattle.ytype_patterns.specs.ClassView.{collected, held_ranges, held_view}
use Rattle.ytype_patterns.proofs.SetLemmas.{IsBounded, members_same, no_character, past_high}

collected_one : (ys : List Range) (set : Set) → IsBounded set → ((c : ℕ) → in_ranges ys c ≡ set c) → collected ys ≡ set
collected_one ys set bounded same = fun_ext (λ c. by c (is_character c) refl)
  where
    by : (c : ℕ) (b : Bool) → is_character c ≡ b → (b && in_ranges ys c) ≡ set c
    by c true e = same c
    by c false e = sym (bounded c (grind (arith, nat_tests, e)))

collected_more : (xs ys : List Range) (set : Set) → IsBounded set → ((c : ℕ) → in_ranges ys c ≡ set c) → collected (xs ++ ys) ≡ any_of (collected xs) set
collected_more xs ys set bounded same = fun_ext (λ c. by c (is_character c) refl)
  where
    by : (c : ℕ) (b : Bool) → is_character c ≡ b → (b && in_ranges (xs ++ ys) c) ≡ ((b && in_ranges xs c) || set c)
    by c true e = in_ranges-append xs ys c ∙ ap (λ b. in_ranges xs c || b) (same c)
    by c false e = sym (bounded c (grind (arith, nat_tests, e)))

-- a set's ranges behind those that are held
pub held_more : (held : Option (Vec Range)) (ys : List Range) (set : Set) → IsBounded set → ((c : ℕ) → in_ranges ys c ≡ set c) →
    Some (collected (held_ranges held ++ ys)) ≡ with_set (held_view held) set
held_more None ys set bounded same = ap Some (collected_one ys set bounded same)
held_more (Some xs) ys set bounded same = ap Some (collected_more xs.items ys set bounded same)

one_range : (low high c : ℕ) → in_ranges ((low, high) ∷ []) c ≡ within low high c
unfolding in_ranges in_range
one_range low high c = or-false (within low high c)

pub held_range : (held : Option (Vec Range)) (low high : ℕ) → high ≤ 0x10_FFFF → Some (collected (held_ranges held ++ (low, high) ∷ [])) ≡ with_set (held_view held) (within low high)
held_range held low high fits = held_more held ((low, high) ∷ []) (within low high) (λ c above. past_high low high c fits above) (one_range low high)

-- the class that they make
pub collected_is : (xs rs : List Range) → IsCanonical rs → HasExactly rs (in_ranges xs) → in_ranges rs ≡ collected xs
collected_is xs rs canonical exactly = members_same rs (collected xs) canonical
    (λ c bound. exactly c bound ∙ sym (ap (λ b. b && in_ranges xs c) (le-leb c 0x10_FFFF bound)))
    (λ c above. ap (λ b. b && in_ranges xs c) (no_character c above))

-- Classes of the engine as sets of characters.
use Rattle.std.specs.Prelude.{◌≡◌, ℕ, ◌≤◌, ◌<◌, Bool, true, false, ◌&&◌, ◌||◌, not, nat_le, ◌==◌, List, [], ◌∷◌, refl, Result, Ok, Err, IfOk}
use Rattle.std.proofs.Common.{sym, ◌∙◌, ap, ap₂, arith, leb-true, le-leb}
use Rattle.std.proofs.Math.Path.{fun_ext}
use Rattle.std.proofs.lemmas.Bool.Decides.{nat_tests}
use Rattle.regex_class.specs.Ranges.{Range, in_range, in_ranges, IsCanonical, HasExactly}
use Rattle.regex_class.proofs.RangesLemmas.{in_ranges-above_max, or-false}
use Rattle.ucd_table.specs.Rows as rows
use Rattle.ucd_table.specs.Steps.{run_value, is_between, IsRunsOf}
use Rattle.ucd_category.specs.GeneralCategory.{general_category, general_category_number}
use Rattle.ucd_category.specs.GeneralCategoryGroup.{group_bounds}
use Rattle.ucd_category.specs.declared.GeneralCategory.{GeneralCategory}
use Rattle.ucd_category.specs.declared.GeneralCategoryGroup.{GeneralCategoryGroup}
use Rattle.ucd_category.proofs.GeneralCategoryGroupLemmas.{in_group-group_bounds}
use Rattle.yspec_patterns.specs.Sets.{Set, is_character, within, outside, any_of, without, of_category, of_group}
use Rattle.ytype_patterns.specs.SymbolView.{categories_within}

-- no number past the last character
abbrev pub IsBounded : Set → Type 0
IsBounded set = (c : ℕ) → 0x10_FFFF < c → set c ≡ false

pub class_bounded : (rs : List Range) → IsCanonical rs → IsBounded (in_ranges rs)
class_bounded rs canonical c above = in_ranges-above_max rs c canonical above

-- ranges that hold a set's characters, where it has no other number
pub members_same : (rs : List Range) (set : Set) → IsCanonical rs → HasExactly rs set → IsBounded set → in_ranges rs ≡ set
members_same rs set canonical exactly none = fun_ext (λ c. by c (is_character c) refl)
  where
    by : (c : ℕ) (b : Bool) → is_character c ≡ b → in_ranges rs c ≡ set c
    by c true e = exactly c (leb-true c 0x10_FFFF e)
    by c false e = let above : 0x10_FFFF < c = grind (arith, nat_tests, e) in in_ranges-above_max rs c canonical above ∙ sym (none c above)

pub no_character : (c : ℕ) → 0x10_FFFF < c → is_character c ≡ false
no_character c above = by (is_character c) refl
  where
    by : (b : Bool) → is_character c ≡ b → b ≡ false
    by true e = absurd (grind (arith, nat_tests, e, above))
    by false e = refl

-- a call's answer, said otherwise
pub if_ok : {A E : Type 0} (P Q : A → Type 0) (r : Result A E) → ((x : A) → P x → Q x) → IfOk r P → IfOk r Q
if_ok P Q (Ok x) f h = f x h
if_ok P Q (Err e) f h = h

pub union_is : (xs ys rs : List Range) → IsCanonical xs → IsCanonical ys → IsCanonical rs →
    HasExactly rs (λ c. in_ranges xs c || in_ranges ys c) → in_ranges rs ≡ any_of (in_ranges xs) (in_ranges ys)
union_is xs ys rs cx cy cr exactly =
    members_same rs (any_of (in_ranges xs) (in_ranges ys)) cr exactly
    (λ c above. ap₂ (λ x y. x || y) (class_bounded xs cx c above) (class_bounded ys cy c above))

pub negated_is : (xs rs : List Range) → IsCanonical rs → HasExactly rs (λ c. nat_le c 0x10_FFFF && not (in_ranges xs c)) → in_ranges rs ≡ outside (in_ranges xs)
negated_is xs rs cr exactly = members_same rs (outside (in_ranges xs)) cr exactly (λ c above. ap (λ b. b && not (in_ranges xs c)) (no_character c above))

pub difference_is : (xs ys rs : List Range) → IsCanonical xs → IsCanonical rs → HasExactly rs (λ c. in_ranges xs c && not (in_ranges ys c)) →
    in_ranges rs ≡ without (in_ranges xs) (in_ranges ys)
difference_is xs ys rs cx cr exactly =
    members_same rs (without (in_ranges xs) (in_ranges ys)) cr exactly (λ c above. ap (λ x. x && not (in_ranges ys c)) (class_bounded xs cx c above))

pub past_high : (low high c : ℕ) → high ≤ 0x10_FFFF → 0x10_FFFF < c → within low high c ≡ false
past_high low high c fits above = by (within low high c) refl
  where
    by : (b : Bool) → within low high c ≡ b → b ≡ false
    by true e = absurd (grind (arith, nat_tests, e, above, fits))
    by false e = refl

pub within_is : (low high : ℕ) (rs : List Range) → high ≤ 0x10_FFFF → IsCanonical rs → HasExactly rs (in_ranges ((low, high) ∷ [])) → in_ranges rs ≡ within low high
unfolding in_ranges in_range
within_is low high rs fits cr exactly = members_same rs (within low high) cr (λ c bound. exactly c bound ∙ or-false (within low high c)) (λ c above. past_high low high c fits above)

-- the tables' rows are read alike
pub rows_alike : (rs : List Range) (c : ℕ) → rows.in_ranges rs c ≡ in_ranges rs c
unfolding rows.in_ranges in_ranges in_range
rows_alike [] c = refl
rows_alike (r ∷ rs) c = ap (λ x. (nat_le r.0 c && nat_le c r.1) || x) (rows_alike rs c)

pub categories_are : (first last : ℕ) (runs : List ℕ) (ts rs : List Range) → IsRunsOf runs (λ c. general_category_number (general_category c)) →
    rows.HasExactly ts (λ c. is_between first last (run_value runs c)) → IsCanonical rs → HasExactly rs (in_ranges ts) → in_ranges rs ≡ categories_within first last
categories_are first last runs ts rs table listed cr exactly = members_same rs (categories_within first last) cr
    (λ c bound. exactly c bound ∙ (sym (rows_alike ts c) ∙ (listed c bound ∙ (ap (is_between first last) (table.values c bound)
    ∙ sym (ap (λ b. b && is_between first last (general_category_number (general_category c))) (le-leb c 0x10_FFFF bound))))))
    (λ c above. ap (λ b. b && is_between first last (general_category_number (general_category c))) (no_character c above))

same_number_by : (m n : ℕ) → is_between n n m ≡ (m == n)
same_number_by m n = by (is_between n n m) (m == n) refl refl
  where
    by : (a b : Bool) → is_between n n m ≡ a → (m == n) ≡ b → a ≡ b
    by true true e f = refl
    by false false e f = refl
    by true false e f = absurd (grind (arith, nat_tests, e, f))
    by false true e f = absurd (grind (arith, nat_tests, e, f))

pub category_is : (g : GeneralCategory) → categories_within (general_category_number g) (general_category_number g) ≡ of_category g
category_is g = fun_ext (λ c. ap (λ b. is_character c && b) (same_number_by (general_category_number (general_category c)) (general_category_number g)))

pub group_is : (g : GeneralCategoryGroup) → categories_within (group_bounds g).0 (group_bounds g).1 ≡ of_group g
group_is g = fun_ext (λ c. ap (λ b. is_character c && b) (in_group-group_bounds g (general_category c)))

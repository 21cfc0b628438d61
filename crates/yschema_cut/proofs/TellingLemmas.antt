-- Totals told from the last node to the first.
use Rattle.std.proofs.Common.{◌≡◌, ℕ, zero, suc, ◌+◌, ◌-◌, ◌<◌, ◌≤◌, ◌^◌, Bool, true, false, cond, not, ◌&&◌, List, [], ◌∷◌, ◌++◌, length, drop, get_or, replicate, refl, sym, ap, ap₂, ◌∙◌, subst, arith, length-drop}
use Rattle.std.specs.Prelude.{◌==◌, nat_lt, slice_set}
use Rattle.std.proofs.lemmas.List.{length-map}
use Rattle.std.proofs.Math.Seq.{drop-cons}
use Rattle.ybase_preorder.specs.Layout.{Place, place_of, laid}
use Rattle.ybase_preorder.specs.declared.slot.Slot.{Slot}
use Rattle.yschema_cut.specs.Totals.{at, holds_in, is_implied_in, one_more, totals_by}
use Rattle.yschema_cut.specs.declared.totals.Fate.{Fate}

-- no more stand than there are
bounded : {L : Type 0} (fates : List Fate) (ps : List (Place L)) (i : ℕ) → at (totals_by fates ps) i ≤ length ps
bounded fates [] zero = omega arith
bounded fates [] (suc i) = omega arith
bounded fates (p ∷ ps) zero = by (holds_in fates && not (is_implied_in fates && (nat_lt 0 p.below && (at later 0 == at later p.below))))
    (bounded (drop 1 fates) ps 0) (bounded (drop 1 fates) ps p.below)
  where
    later : List ℕ
    later = totals_by (drop 1 fates) ps

    by : (b : Bool) → at later 0 ≤ length ps → at later p.below ≤ length ps → cond b (at later 0 + 1) (at later p.below) ≤ suc (length ps)
    by true first other = omega (arith, first)
    by false first other = omega (arith, other)
bounded fates (p ∷ ps) (suc i) = let rest = bounded (drop 1 fates) ps i in omega (arith, rest)

pub room_left : {L : Type 0} (fates : List Fate) (slots : List (Slot L)) (items : List ℕ) (m : ℕ) → 0 < m → length slots < 2 ^ 32
    → drop m items ≡ totals_by (drop m fates) (laid (drop m slots)) → at (drop (m - 1 + 1) items) 0 + 1 < 2 ^ 32
room_left fates slots items m some few so_far =
    let same : m - 1 + 1 ≡ m = omega (arith, some) in
    let most = bounded (drop m fates) (laid (drop m slots)) 0 in
    let count : length (laid (drop m slots)) ≡ length slots - m = length-map (drop m slots) place_of ∙ length-drop m slots in
    let is : at (drop (m - 1 + 1) items) 0 ≡ at (totals_by (drop m fates) (laid (drop m slots))) 0 = ap (λ n. at (drop n items) 0) same ∙ ap (λ ns. at ns 0) so_far in
    omega (arith, some, few, most, count, is)

set_there : (xs : List ℕ) (n v : ℕ) → n < length xs → drop n (slice_set xs n v) ≡ v ∷ drop (suc n) xs
set_there [] n v within = absurd (omega (arith, within))
set_there (x ∷ xs) zero v within = refl
set_there (x ∷ xs) (suc n) v within = set_there xs n v (omega (arith, within))

length_set : (xs : List ℕ) (n v : ℕ) → length (slice_set xs n v) ≡ length xs
length_set [] n v = refl
length_set (x ∷ xs) zero v = refl
length_set (x ∷ xs) (suc n) v = ap suc (length_set xs n v)

drop_one : {A : Type 0} (n : ℕ) (xs : List A) → drop 1 (drop n xs) ≡ drop (suc n) xs
drop_one zero xs = refl
drop_one (suc n) [] = refl
drop_one (suc n) (x ∷ xs) = drop_one n xs

-- one more is told
pub one_told : {L : Type 0} (fates : List Fate) (slots : List (Slot L)) (items new : List ℕ) (m : ℕ) (r : Slot L) (h i : Bool) → 0 < m → m ≤ length slots
    → length items ≡ length slots + 1 → h ≡ holds_in (drop (m - 1) fates) → i ≡ is_implied_in (drop (m - 1) fates)
    → drop m items ≡ totals_by (drop m fates) (laid (drop m slots))
    → new ≡ slice_set items (m - 1) (one_more h i (get_or slots (m - 1) r).below (drop (m - 1 + 1) items))
    → (length new ≡ length slots + 1) × (drop (m - 1) new ≡ totals_by (drop (m - 1) fates) (laid (drop (m - 1) slots)))
one_told fates slots items new m r h i some within count holds implied so_far new_is =
    let n = m - 1 in
    let next : suc n ≡ m = omega (arith, some) in
    let same : n + 1 ≡ m = omega (arith, some) in
    let later : drop (n + 1) items ≡ totals_by (drop (suc n) fates) (laid (drop (suc n) slots)) =
    ap (λ k. drop k items) same ∙ (so_far ∙ ap (λ k. totals_by (drop k fates) (laid (drop k slots))) (sym next)) in
    let row : drop n slots ≡ get_or slots n r ∷ drop (suc n) slots = drop-cons slots n r (omega (arith, within, some)) in
    let under = (get_or slots n r).below in (
      ap length new_is ∙ (length_set items n (one_more h i under (drop (n + 1) items)) ∙ count),
      ap (drop n) new_is ∙ (set_there items n (one_more h i under (drop (n + 1) items)) (omega (arith, within, some, count))
          ∙ (ap (λ k. one_more h i under (drop (n + 1) items) ∷ drop k items) (next ∙ sym same)
          ∙ (ap (λ t. one_more h i under t ∷ t) later
          ∙ (ap₂ (λ a b. one_more a b under (totals_by (drop (suc n) fates) (laid (drop (suc n) slots))) ∷ totals_by (drop (suc n) fates) (laid (drop (suc n) slots))) holds implied
          ∙ (ap (λ fs. one_more (holds_in (drop n fates)) (is_implied_in (drop n fates)) under (totals_by fs (laid (drop (suc n) slots))) ∷ totals_by fs (laid (drop (suc n) slots))) (sym (drop_one n fates))
          ∙ ap (λ xs. totals_by (drop n fates) (laid xs)) (sym row)))))),
    )

-- Which marks are set.
use Rattle.std.proofs.Common.{◌≡◌, ◌≢◌, ℕ, zero, suc, Bool, true, false, ◌||◌, List, [], ◌∷◌, length, replicate, Option, Some, None, refl, sym, ap, ap₂, ◌∙◌, subst, inl, inr}
use Rattle.std.specs.Prelude.{◌==◌, option_map, slice_get, slice_set, unwrap_or}
use Rattle.std.specs.List.{list_any}
use Rattle.std.proofs.lemmas.Bool.{cases_eq, eq-eqb, ne_eqb}
use Rattle.yschema_types.specs.Marks.{marked, marked_by}

-- ---- which marks are set

set_here : (bs : List Bool) (i : ℕ) → slice_get (slice_set bs i true) i ≡ option_map (λ b. true) (slice_get bs i)
set_here [] i = refl
set_here (b ∷ bs) zero = refl
set_here (b ∷ bs) (suc i) = set_here bs i

set_there : (bs : List Bool) (n i : ℕ) → n ≢ i → slice_get (slice_set bs n true) i ≡ slice_get bs i
set_there [] n i other = refl
set_there (b ∷ bs) zero zero other = absurd (other refl)
set_there (b ∷ bs) zero (suc i) other = refl
set_there (b ∷ bs) (suc n) zero other = refl
set_there (b ∷ bs) (suc n) (suc i) other = set_there bs n i (λ e. other (ap suc e))

as_it_was : (o : Option Bool) → o ≡ option_map (λ b. b || false) o
as_it_was None = refl
as_it_was (Some true) = refl
as_it_was (Some false) = refl

set_at : (bs : List Bool) (n i : ℕ) → slice_get (slice_set bs n true) i ≡ option_map (λ b. b || n == i) (slice_get bs i)
set_at bs n i = elim (cases_eq n i) [
  | inl e ↦ subst (λ m. slice_get (slice_set bs m true) i ≡ option_map (λ b. b || n == i) (slice_get bs i)) (sym e)
      (set_here bs i ∙ (now (slice_get bs i) ∙ sym (ap (λ d. option_map (λ b. b || d) (slice_get bs i)) (eq-eqb n i e))))
  | inr e ↦ set_there bs n i e ∙ (as_it_was (slice_get bs i) ∙ sym (ap (λ d. option_map (λ b. b || d) (slice_get bs i)) (ne_eqb n i e)))
]
  where
    now : (o : Option Bool) → option_map (λ b. true) o ≡ option_map (λ b. b || true) o
    now None = refl
    now (Some true) = refl
    now (Some false) = refl

joined : (c d : Bool) (o : Option Bool) → option_map (λ b. b || d) (option_map (λ b. b || c) o) ≡ option_map (λ b. b || (c || d)) o
joined c d None = refl
joined c d (Some true) = refl
joined c d (Some false) = refl

marked_at : (bs : List Bool) (ns : List ℕ) (i : ℕ) → slice_get (marked bs ns) i ≡ option_map (λ b. b || list_any (λ m. m == i) ns) (slice_get bs i)
marked_at bs [] i = as_it_was (slice_get bs i)
marked_at bs (n ∷ ns) i =
    marked_at (slice_set bs n true) ns i
    ∙ (ap (option_map (λ b. b || list_any (λ m. m == i) ns)) (set_at bs n i) ∙ joined (n == i) (list_any (λ m. m == i) ns) (slice_get bs i))

pub marked_by_at : {A : Type 0} (says : A → List ℕ) (bs : List Bool) (xs : List A) (i : ℕ)
    → slice_get (marked_by says bs xs) i ≡ option_map (λ b. b || list_any (λ x. list_any (λ m. m == i) (says x)) xs) (slice_get bs i)
marked_by_at says bs [] i = as_it_was (slice_get bs i)
marked_by_at says bs (x ∷ xs) i =
    marked_by_at says (marked bs (says x)) xs i
    ∙ (ap (option_map (λ b. b || list_any (λ y. list_any (λ m. m == i) (says y)) xs)) (marked_at bs (says x) i)
    ∙ joined (list_any (λ m. m == i) (says x)) (list_any (λ y. list_any (λ m. m == i) (says y)) xs) (slice_get bs i))

-- ---- lists

pub some_same : {X : Type 0} → (x y : X) → Some x ≡ Some y → x ≡ y
some_same x y e = ap (λ o. unwrap_or o x) e

pub same_by_get : {X : Type 0} (xs ys : List X) → ((i : ℕ) → slice_get xs i ≡ slice_get ys i) → xs ≡ ys
same_by_get [] [] same = refl
same_by_get [] (y ∷ ys) same = let e : None ≡ Some y = same 0 in absurd cc
same_by_get (x ∷ xs) [] same = let e : Some x ≡ None = same 0 in absurd cc
same_by_get (x ∷ xs) (y ∷ ys) same = ap₂ (λ z zs. z ∷ zs) (some_same x y (same 0)) (same_by_get xs ys (λ i. same (suc i)))

pub none_set : {X : Type 0} (xs : List X) (i : ℕ) → slice_get (replicate (length xs) false) i ≡ option_map (λ x. false) (slice_get xs i)
none_set [] i = refl
none_set (x ∷ xs) zero = refl
none_set (x ∷ xs) (suc i) = none_set xs i

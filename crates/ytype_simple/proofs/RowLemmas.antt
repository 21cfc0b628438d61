-- One step of a loop over a row.
use Rattle.std.proofs.Common.{◌≡◌, ◌≤◌, ◌<◌, ◌⊎◌, inl, inr, ℕ, suc, ◌+◌, List, [], ◌∷◌, ◌++◌, Option, Some, None, length, take, drop, get_or, refl, sym, ap, ◌∙◌, arith}
use Rattle.std.specs.Prelude.{slice_get, option_to_list}
use Rattle.std.proofs.lemmas.Option.{slice_get_within, get_or_from_slice_get, slice_get_cases, none-some}
use Rattle.std.proofs.lemmas.List.{append-nil, at_drop_more, at_drop_all, take_all}
use Rattle.std.proofs.Math.Seq.{take-suc}

pub here : {A : Type 0} → (xs : List A) (i : ℕ) (x : A) → Some x ≡ slice_get xs i → drop i xs ≡ x ∷ drop (i + 1) xs
here {A} xs i x e = at_drop_more (λ (ys : List A). ys) xs i x (slice_get_within xs i x (sym e))
    ∙ ap (λ (y : A). y ∷ drop (i + 1) xs) (get_or_from_slice_get xs i x x (sym e))

past_end : {A : Type 0} → (xs : List A) (i : ℕ) → None ≡ slice_get xs i
    → ((x : A) × (i < length xs) × (slice_get xs i ≡ Some x) × (get_or xs i x ≡ x)) ⊎ ((length xs ≤ i) × (slice_get xs i ≡ None)) → length xs ≤ i
past_end xs i e (inl p) = absurd (none-some p.0 (e ∙ p.2))
past_end xs i e (inr q) = q.0

ended : {A : Type 0} → (xs : List A) (i : ℕ) → None ≡ slice_get xs i → length xs ≤ i
ended xs i e = past_end xs i e (slice_get_cases xs i).1

pub gone : {A : Type 0} → (xs : List A) (i : ℕ) → None ≡ slice_get xs i → drop i xs ≡ []
gone {A} xs i e = at_drop_all (λ (ys : List A). ys) xs i (ended xs i e)

pub past : {A : Type 0} → (xs : List A) (i : ℕ) → None ≡ slice_get xs i → drop (i + 1) xs ≡ drop i xs
past {A} xs i e = at_drop_all (λ (ys : List A). ys) xs (i + 1) (omega (arith, ended xs i e)) ∙ sym (gone xs i e)

at_option : {A : Type 0} → (xs : List A) (i : ℕ) (o : Option A) → o ≡ slice_get xs i → option_to_list o ++ drop (i + 1) xs ≡ drop i xs
at_option xs i None e = past xs i e
at_option xs i (Some x) e = sym (here xs i x e)

pub at_place : {A : Type 0} → (xs : List A) (i : ℕ) → option_to_list (slice_get xs i) ++ drop (i + 1) xs ≡ drop i xs
at_place xs i = at_option xs i (slice_get xs i) refl

pub taken_next : {A : Type 0} → (xs : List A) (i : ℕ) (o : Option A) → o ≡ slice_get xs i → take (i + 1) xs ≡ take i xs ++ option_to_list o
taken_next xs i None e =
    let past = ended xs i e in
    take_all (i + 1) xs (omega (arith, past)) ∙ (sym (take_all i xs past) ∙ sym (append-nil (take i xs)))
taken_next {A} xs i (Some x) e =
    let next : i + 1 ≡ suc i = omega arith in
    ap (λ (n : ℕ). take n xs) next ∙ (take-suc xs i x (slice_get_within xs i x (sym e))
    ∙ ap (λ (y : A). take i xs ++ y ∷ []) (get_or_from_slice_get xs i x x (sym e)))

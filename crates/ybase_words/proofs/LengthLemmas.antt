-- What a text is, is found among the things of its own length alone.
use Rattle.std.proofs.Common.{◌≡◌, ◌≢◌, ℕ, Bool, true, false, List, [], ◌∷◌, length, refl, sym, ap, ◌∙◌, arith}
use Rattle.std.specs.Prelude.{filter, find, option_map}
use Rattle.std.proofs.lemmas.Bool.Decides.{nat_tests}
use Rattle.std.proofs.lemmas.Slice.Eq.{bytes_eq-Decides}
use Rattle.yspec.specs.text.Text.{Text, is_text}
use Rattle.yspec.specs.linking.TypeStatements.{built_in_named, built_in_types}
use Rattle.ybase_words.specs.Lengths.{type_among, is_another}

find_kept : {A : Type 0} (p q : A → Bool) → ((a : A) → p a ≡ true → q a ≡ true) → (xs : List A) → find p xs ≡ find p (filter q xs)
find_kept p q h [] = refl
find_kept p q h (a ∷ xs) = step (p a) (q a) refl refl (find_kept p q h xs)
  where
    step : (x y : Bool) → p a ≡ x → q a ≡ y → find p xs ≡ find p (filter q xs) → find p (a ∷ xs) ≡ find p (filter q (a ∷ xs))
    step true true ex ey e = rw (ex, ey, ex) refl
    step true false ex ey e = let clash : true ≡ false = sym (h a ex) ∙ ey in absurd cc
    step false true ex ey e = rw (ex, ey, ex) e
    step false false ex ey e = rw (ex, ey) e

same_length : (test : ℕ → Bool) (t s : Text) → test (length t) ≡ true → is_text t s ≡ true → test (length s) ≡ true
same_length test t s h e = ap (λ (x : Text). test (length x)) (sym ((bytes_eq-Decides t s).0 e)) ∙ h

pub found_of_length : {A : Type 0} (name : A → Text) (all : List A) (test : ℕ → Bool) (t : Text) → test (length t) ≡ true
    → find (λ a. is_text t (name a)) (filter (λ a. test (length (name a))) all) ≡ find (λ a. is_text t (name a)) all
found_of_length name all test t h =
    sym (find_kept (λ a. is_text t (name a)) (λ a. test (length (name a))) (λ a e. same_length test t (name a) h e) all)

-- ---- built-in types

pub type_found : (test : ℕ → Bool) (t : Text) → test (length t) ≡ true → type_among test t ≡ built_in_named t
unfolding built_in_named
type_found test t h = ap (option_map (λ entry. entry.1)) (found_of_length (λ entry. entry.0) built_in_types test t h)

pub at_another : (n : ℕ) → n ≢ 4 → n ≢ 5 → n ≢ 6 → is_another n ≡ true
at_another n four five six = grind (arith, nat_tests)

-- A list whose elements have the numbers from one on, one after another: what is found there by its number.
use Rattle.std.proofs.Common.{◌≡◌, ℕ, zero, suc, ◌+◌, ◌<◌, Bool, true, false, cond, List, [], ◌∷◌, ◌++◌, length, get_or, Some, refl, sym, ap, ◌∙◌, arith, subst}
use Rattle.std.specs.Prelude.{⊤, slice_get, find, ◌==◌}
use Rattle.std.specs.List.{Contains}
use Rattle.std.proofs.lemmas.Bool.Decides.{Decides-eqb}
use Rattle.std.proofs.lemmas.Option.{slice_get-get_or}

module _ {A : Type 0} (number : A → ℕ) where
  abbrev pub AreFrom : ℕ → List A → Type 0
  AreFrom k [] = ⊤
  AreFrom k (x ∷ xs) = (number x ≡ k) × AreFrom (k + 1) xs

  pub from_append : (k : ℕ) (xs ys : List A) → AreFrom k xs → AreFrom (k + length xs) ys → AreFrom k (xs ++ ys)
  from_append k [] ys are others = let same : k + 0 ≡ k = omega arith in subst (λ n. AreFrom n ys) same others
  from_append k (x ∷ xs) ys are others =
      let same : k + suc (length xs) ≡ (k + 1) + length xs = omega arith in
      (are.0, from_append (k + 1) xs ys are.1 (subst (λ n. AreFrom n ys) same others))

  pub found_from : (k : ℕ) (xs : List A) → AreFrom k xs → (n : ℕ) → find (λ x. number x == (k + n)) xs ≡ slice_get xs n
  found_from k [] are n = refl
  found_from k (x ∷ xs) are zero =
      let same : number x ≡ k + 0 = are.0 ∙ omega arith in
      ap (λ b. cond b (Some x) (find (λ y. number y == (k + 0)) xs)) ((Decides-eqb (number x) (k + 0)).1 same)
  found_from k (x ∷ xs) are (suc n) =
      let further : k + suc n ≡ (k + 1) + n = omega arith in
      ap (λ b. cond b (Some x) (find (λ y. number y == (k + suc n)) xs)) (differs (number x == (k + suc n)) refl)
      ∙ (ap (λ m. find (λ y. number y == m) xs) further ∙ found_from (k + 1) xs are.1 n)
    where
      differs : (b : Bool) → (number x == (k + suc n)) ≡ b → b ≡ false
      differs false e = refl
      differs true e = absurd (let same = (Decides-eqb (number x) (k + suc n)).0 e in let own = are.0 in omega (arith, same, own))

  number_from : (k : ℕ) (xs : List A) → AreFrom k xs → (i : ℕ) → i < length xs → (d : A) → number (get_or xs i d) ≡ k + i
  number_from k [] are i within d = absurd (omega arith)
  number_from k (x ∷ xs) are zero within d = are.0 ∙ omega arith
  number_from k (x ∷ xs) are (suc i) within d =
      let same : (k + 1) + i ≡ k + suc i = omega arith in number_from (k + 1) xs are.1 i (omega arith) d ∙ same

  -- what is found by its number has it
  pub found_among : (n : ℕ) (x : A) (xs : List A) → find (λ y. number y == n) xs ≡ Some x → Contains xs x × (number x ≡ n)
  found_among n x [] e = absurd cc
  found_among n x (y ∷ ys) e = by (number y == n) refl e (λ later. found_among n x ys later)
    where
      by : (b : Bool) → (number y == n) ≡ b → cond b (Some y) (find (λ z. number z == n) ys) ≡ Some x
          → (find (λ z. number z == n) ys ≡ Some x → Contains ys x × (number x ≡ n)) → Contains (y ∷ ys) x × (number x ≡ n)
      by true is e rest = let same : y ≡ x = cc in ((0, omega arith, same), sym (ap number same) ∙ (Decides-eqb (number y) n).0 is)
      by false is e rest = let found = rest e in let at = found.0 in let within = at.1 in ((suc at.0, omega (arith, within), at.2), found.1)

  -- ---- those that have the numbers from 0 on

  module _ (xs : List A) (are : AreFrom 0 xs) where
    pub found_at : (n : ℕ) → find (λ x. number x == n) xs ≡ slice_get xs n
    found_at n = let plain : n ≡ 0 + n = omega arith in ap (λ m. find (λ x. number x == m) xs) plain ∙ found_from 0 xs are n

    -- each stands at its number
    pub stands_there : (x : A) → Contains xs x → slice_get xs (number x) ≡ Some x
    stands_there x at =
        let within = at.1 in
        let plain : 0 + at.0 ≡ at.0 = omega arith in
        let place : number x ≡ at.0 = sym (ap number at.2) ∙ (number_from 0 xs are at.0 within x ∙ plain) in
        ap (slice_get xs) place ∙ (slice_get-get_or xs at.0 x within ∙ ap (λ y. Some y) at.2)

    -- and is found by it
    pub found_again : (x : A) → Contains xs x → find (λ y. number y == number x) xs ≡ Some x
    found_again x at = found_at (number x) ∙ stands_there x at

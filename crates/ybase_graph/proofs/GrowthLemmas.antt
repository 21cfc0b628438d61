-- A test that more of a list passes with each step, or as many as before, passes no more once there were as many steps as there is to
-- pass it.
use Rattle.std.proofs.Common.{◌≡◌, ◌≢◌, ℕ, zero, suc, ◌+◌, ◌≤◌, ◌<◌, Bool, true, false, cond, List, [], ◌∷◌, length, refl, sym, ap, ◌∙◌, subst, inl, inr, arith}
use Rattle.std.specs.Prelude.{◌⊎◌}
use Rattle.std.proofs.lemmas.Bool.{cases_eq, false≢true}
use Rattle.ybase_graph.proofs.AmongLemmas.{Among, nowhere, parted}

module _ {A : Type 0} where
  abbrev how_many : (A → Bool) → List A → ℕ
  how_many test [] = 0
  how_many test (x ∷ xs) = cond (test x) 1 0 + how_many test xs

  at_most : (test : A → Bool) (xs : List A) → how_many test xs ≤ length xs
  at_most test [] = omega arith
  at_most test (x ∷ xs) = by (test x) (at_most test xs)
    where
      by : (b : Bool) → how_many test xs ≤ length xs → cond b 1 0 + how_many test xs ≤ suc (length xs)
      by true rest = omega (arith, rest)
      by false rest = omega (arith, rest)

  module _ (less more : A → Bool) (weaker : (x : A) → less x ≡ true → more x ≡ true) where
    no_fewer : (xs : List A) → how_many less xs ≤ how_many more xs
    no_fewer [] = omega arith
    no_fewer (x ∷ xs) = by (less x) (more x) (weaker x) (no_fewer xs)
      where
        by : (l m : Bool) → (l ≡ true → m ≡ true) → how_many less xs ≤ how_many more xs
            → cond l 1 0 + how_many less xs ≤ cond m 1 0 + how_many more xs
        by true true up rest = omega (arith, rest)
        by true false up rest = absurd (false≢true (up refl))
        by false true up rest = omega (arith, rest)
        by false false up rest = omega (arith, rest)

    -- more pass the second, or the same
    grown : (xs : List A) → (how_many less xs < how_many more xs) ⊎ ((x : A) → Among x xs → more x ≡ true → less x ≡ true)
    grown [] = inr (λ x at. absurd (nowhere x [] refl at))
    grown (x ∷ xs) = by (less x) (more x) refl refl (weaker x) (no_fewer xs) (grown xs)
      where
        kept : ((y : A) → Among y xs → more y ≡ true → less y ≡ true) → (more x ≡ true → less x ≡ true)
            → (y : A) → Among y (x ∷ xs) → more y ≡ true → less y ≡ true
        kept others own y at holds = one (parted y x xs (x ∷ xs) refl at)
          where
            one : (y ≡ x) ⊎ Among y xs → less y ≡ true
            one (inl same) = ap less same ∙ own (ap more (sym same) ∙ holds)
            one (inr inside) = others y inside holds

        by : (l m : Bool) → less x ≡ l → more x ≡ m → (l ≡ true → m ≡ true) → how_many less xs ≤ how_many more xs
            → (how_many less xs < how_many more xs) ⊎ ((y : A) → Among y xs → more y ≡ true → less y ≡ true)
            → (cond l 1 0 + how_many less xs < cond m 1 0 + how_many more xs) ⊎ ((y : A) → Among y (x ∷ xs) → more y ≡ true → less y ≡ true)
        by true true is_less is_more up rest (inl fewer) = inl (omega (arith, fewer))
        by true true is_less is_more up rest (inr others) = inr (kept others (λ h. is_less))
        by true false is_less is_more up rest inner = absurd (false≢true (up refl))
        by false true is_less is_more up rest inner = inl (omega (arith, rest))
        by false false is_less is_more up rest (inl fewer) = inl (omega (arith, fewer))
        by false false is_less is_more up rest (inr others) = inr (kept others (λ h. absurd (false≢true (sym is_more ∙ h))))

  module _ (step : ℕ → A → Bool) (grows : (k : ℕ) (x : A) → step k x ≡ true → step (suc k) x ≡ true) where
    -- as it was some steps before
    pub kept_from : (j k : ℕ) (x : A) → j ≤ k → step j x ≡ true → step k x ≡ true
    kept_from j zero x le holds = let same : j ≡ zero = omega (arith, le) in subst (λ n. step n x ≡ true) same holds
    kept_from j (suc k) x le holds = elim (cases_eq j (suc k)) [
      | inl same ↦ subst (λ n. step n x ≡ true) same holds
      | inr other ↦ let before : j ≤ k = omega (arith, le, other) in grows k x (kept_from j k x before holds)
    ]

    module _ (xs : List A) where
      -- nothing passes with one step more that doesn't pass so
      abbrev pub IsFull : ℕ → Type 0
      IsFull k = (x : A) → Among x xs → step (suc k) x ≡ true → step k x ≡ true

      full_or_many : (k : ℕ) → ((j : ℕ) × (j < k) × IsFull j) ⊎ (k ≤ how_many (step k) xs)
      full_or_many zero = let least : zero ≤ how_many (step zero) xs = omega arith in inr least
      full_or_many (suc k) = by (full_or_many k)
        where
          by : ((j : ℕ) × (j < k) × IsFull j) ⊎ (k ≤ how_many (step k) xs) → ((j : ℕ) × (j < suc k) × IsFull j) ⊎ (suc k ≤ how_many (step (suc k)) xs)
          by (inl found) =
              let low = found.1 in let lower : found.0 < suc k = omega (arith, low) in inl (found.0, lower, found.2)
          by (inr many) = one (grown (step k) (step (suc k)) (grows k) xs)
            where
              one : (how_many (step k) xs < how_many (step (suc k)) xs) ⊎ IsFull k
                  → ((j : ℕ) × (j < suc k) × IsFull j) ⊎ (suc k ≤ how_many (step (suc k)) xs)
              one (inl fewer) = let more : suc k ≤ how_many (step (suc k)) xs = omega (arith, many, fewer) in inr more
              one (inr full) = let low : k < suc k = omega arith in inl (k, low, full)

      pub full_in_time : (j : ℕ) × (j ≤ length xs) × IsFull j
      full_in_time = by (full_or_many (suc (length xs)))
        where
          by : ((j : ℕ) × (j < suc (length xs)) × IsFull j) ⊎ (suc (length xs) ≤ how_many (step (suc (length xs))) xs) → (j : ℕ) × (j ≤ length xs) × IsFull j
          by (inl found) = let low = found.1 in let lower : found.0 ≤ length xs = omega (arith, low) in (found.0, lower, found.2)
          by (inr many) = let most = at_most (step (suc (length xs))) xs in absurd (omega (arith, many, most))

-- What stands in a list, and in lists that are made of it.
use Rattle.std.proofs.Common.{◌≡◌, zero, suc, Bool, true, false, cond, List, [], ◌∷◌, ◌++◌, map, Some, refl, sym, ap, subst, inl, inr, arith}
use Rattle.std.specs.Prelude.{◌⊎◌, filter, find}
use Rattle.std.specs.List.{flat_map, list_any, Contains}
use Rattle.std.proofs.lemmas.Bool.{false≢true, or_cases, or_left, or_right}

pub data Among {A : Type 0} (x : A) : List A → Type 0 where
  first : {xs : List A} → Among x (x ∷ xs)
  later : {y : A} {xs : List A} → Among x xs → Among x (y ∷ xs)

module _ {A : Type 0} where
  first_or : A → List A → A
  first_or x [] = x
  first_or x (y ∷ ys) = y

  rest_of : List A → List A
  rest_of [] = []
  rest_of (y ∷ ys) = ys

  pub nowhere : (x : A) (l : List A) → l ≡ [] → Among x l → ⊥
  nowhere x l is first = absurd cc
  nowhere x l is (later at) = absurd cc

  -- at the head of a list, or behind it
  pub parted : (x y : A) (ys l : List A) → l ≡ y ∷ ys → Among x l → (x ≡ y) ⊎ Among x ys
  unfolding first_or rest_of
  parted x y ys l is first = inl (ap (first_or x) is)
  parted x y ys l is (later at) = inr (subst (Among x) (ap rest_of is) at)

  pub among_before : (x : A) (xs ys : List A) → Among x xs → Among x (xs ++ ys)
  among_before x xs ys first = first
  among_before x xs ys (later {xs = zs} at) = later (among_before x zs ys at)

  pub among_behind : (x : A) (xs ys : List A) → Among x ys → Among x (xs ++ ys)
  among_behind x [] ys at = at
  among_behind x (z ∷ zs) ys at = later (among_behind x zs ys at)

  pub among_parts : (x : A) (xs ys : List A) → Among x (xs ++ ys) → Among x xs ⊎ Among x ys
  among_parts x [] ys at = inr at
  among_parts x (z ∷ zs) ys at = by (parted x z (zs ++ ys) (z ∷ (zs ++ ys)) refl at) (among_parts x zs ys)
    where
      by : (x ≡ z) ⊎ Among x (zs ++ ys) → (Among x (zs ++ ys) → Among x zs ⊎ Among x ys) → Among x (z ∷ zs) ⊎ Among x ys
      by (inl same) inner = inl (subst (λ w. Among x (w ∷ zs)) same first)
      by (inr more) inner = one (inner more)
        where
          one : Among x zs ⊎ Among x ys → Among x (z ∷ zs) ⊎ Among x ys
          one (inl before) = inl (later before)
          one (inr behind) = inr behind

  pub among_contained : (x : A) (xs : List A) → Contains xs x → Among x xs
  among_contained x [] at = absurd (let within = at.1 in omega (arith, within))
  among_contained x (y ∷ ys) (zero, within, is) = subst (λ z. Among x (z ∷ ys)) (sym is) first
  among_contained x (y ∷ ys) (suc k, within, is) = later (among_contained x ys (k, omega (arith, within), is))

  -- ---- tests

  pub found_among : (test : A → Bool) (xs : List A) (x : A) → find test xs ≡ Some x → Among x xs
  found_among test [] x e = absurd cc
  found_among test (y ∷ ys) x e = by (test y) e (found_among test ys x)
    where
      by : (b : Bool) → cond b (Some y) (find test ys) ≡ Some x → (find test ys ≡ Some x → Among x ys) → Among x (y ∷ ys)
      by true e rest = let same : y ≡ x = cc in subst (λ z. Among x (z ∷ ys)) (sym same) first
      by false e rest = later (rest e)

  pub passing_among : (test : A → Bool) (xs : List A) (x : A) → Among x (filter test xs) → Among x xs
  passing_among test [] x at = at
  passing_among test (y ∷ ys) x at = by (test y) at (passing_among test ys x)
    where
      by : (b : Bool) → Among x (cond b (y ∷ filter test ys) (filter test ys)) → (Among x (filter test ys) → Among x ys) → Among x (y ∷ ys)
      by true there rest = one (parted x y (filter test ys) (y ∷ filter test ys) refl there)
        where
          one : (x ≡ y) ⊎ Among x (filter test ys) → Among x (y ∷ ys)
          one (inl same) = subst (λ z. Among x (z ∷ ys)) same first
          one (inr more) = later (rest more)
      by false there rest = later (rest there)

  pub any_among : (test : A → Bool) (x : A) (xs : List A) → Among x xs → test x ≡ true → list_any test xs ≡ true
  any_among test x xs (first {xs = zs}) holds = or_left (test x) (list_any test zs) holds
  any_among test x xs (later {y = y} {xs = zs} at) holds = or_right (test y) (list_any test zs) (any_among test x zs at holds)

  pub among_any : (test : A → Bool) (xs : List A) → list_any test xs ≡ true → (x : A) × Among x xs × (test x ≡ true)
  among_any test [] any = absurd (false≢true any)
  among_any test (x ∷ xs) any = elim (or_cases (test x) (list_any test xs) any) [
    | inl own ↦ (x, first, own)
    | inr others ↦ let more = among_any test xs others in (more.0, later more.1, more.2)
  ]

-- ---- lists that are made of lists

module _ {A B : Type 0} where
  pub among_map : (f : A → B) (x : A) (xs : List A) → Among x xs → Among (f x) (map f xs)
  among_map f x xs first = first
  among_map f x xs (later {xs = zs} at) = later (among_map f x zs at)

  pub among_of_map : (f : A → B) (y : B) (xs : List A) → Among y (map f xs) → (x : A) × Among x xs × (f x ≡ y)
  among_of_map f y [] at = absurd (nowhere y [] refl at)
  among_of_map f y (x ∷ xs) at = by (parted y (f x) (map f xs) (f x ∷ map f xs) refl at) (among_of_map f y xs)
    where
      by : (y ≡ f x) ⊎ Among y (map f xs) → (Among y (map f xs) → (z : A) × Among z xs × (f z ≡ y)) → (z : A) × Among z (x ∷ xs) × (f z ≡ y)
      by (inl same) inner = (x, first, sym same)
      by (inr more) inner = let found = inner more in (found.0, later found.1, found.2)

  pub among_flat : (f : A → List B) (x : A) (y : B) (xs : List A) → Among x xs → Among y (f x) → Among y (flat_map f xs)
  among_flat f x y xs (first {xs = zs}) inside = among_before y (f x) (flat_map f zs) inside
  among_flat f x y xs (later {y = w} {xs = zs} at) inside = among_behind y (f w) (flat_map f zs) (among_flat f x y zs at inside)

  pub among_of_flat : (f : A → List B) (y : B) (xs : List A) → Among y (flat_map f xs) → (x : A) × Among x xs × Among y (f x)
  among_of_flat f y [] at = absurd (nowhere y [] refl at)
  among_of_flat f y (x ∷ xs) at = by (among_parts y (f x) (flat_map f xs) at) (among_of_flat f y xs)
    where
      by : Among y (f x) ⊎ Among y (flat_map f xs) → (Among y (flat_map f xs) → (z : A) × Among z xs × Among y (f z))
          → (z : A) × Among z (x ∷ xs) × Among y (f z)
      by (inl own) inner = (x, first, own)
      by (inr more) inner = let found = inner more in (found.0, later found.1, found.2)

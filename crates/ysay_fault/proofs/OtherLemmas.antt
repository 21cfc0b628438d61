-- The first two keys that are the same as one, and the first but one at a position.
use Rattle.std.proofs.Common.{◌≡◌, ℕ, ◌+◌, ◌<◌, ◌≤◌, Bool, true, false, cond, not, ◌&&◌, List, [], ◌∷◌, ◌++◌, length, take, take_all, drop, get_or, Option, Some, None, refl, sym, ap, ap₂, ◌∙◌, append_assoc, arith}
use Rattle.std.specs.Prelude.{◌==◌, option_map, option_and_then, unwrap_or}
use Rattle.std.specs.Cmp.{IsEquivalence}
use Rattle.std.specs.Option.{option_map_or, option_or}
use Rattle.std.proofs.lemmas.Bool.{eq-eqb, eqb-true, ne_eqb}
use Rattle.std.proofs.lemmas.List.{take_more, at_drop_more, length-take-le}
use Rattle.ysay_fault.specs.declared.others.FirstTwo.{FirstTwo}
use Rattle.ysay_fault.specs.Others.{first_same, first_two, first_but, with_position, others_from}

or_none : {A : Type 0} (o : Option A) → option_or o None ≡ o
or_none None = refl
or_none (Some x) = refl

and_false : (b : Bool) → (b && false) ≡ false
and_false true = refl
and_false false = refl

and_true : (b : Bool) → (b && true) ≡ b
and_true true = refl
and_true false = refl

module _ {K : Type 0} (same : K → K → Bool) where
  abbrev hits : ℕ → ℕ → K → Option K → Bool
  hits own n q key = not (n == own) && option_map_or (same q) key false

  -- ---- one key more

  first_last : (own n : ℕ) (q : K) (xs : List (Option K)) (o : Option K)
      → first_same same own n q (xs ++ o ∷ []) ≡ option_or (first_same same own n q xs) (cond (hits own (n + length xs) q o) (Some (n + length xs)) None)
  first_last own n q [] o = let here : n ≡ n + length {A = Option K} [] = omega arith in ap (λ m. cond (hits own m q o) (Some m) None) here
  first_last own n q (x ∷ xs) o =
      let moved : n + 1 + length xs ≡ n + length (x ∷ xs) = omega arith in
      by (hits own n q x)
      (first_last own (n + 1) q xs o ∙ ap (λ m. option_or (first_same same own (n + 1) q xs) (cond (hits own m q o) (Some m) None)) moved)
    where
      by : (b : Bool)
          → first_same same own (n + 1) q (xs ++ o ∷ []) ≡ option_or (first_same same own (n + 1) q xs) (cond (hits own (n + length (x ∷ xs)) q o) (Some (n + length (x ∷ xs))) None)
          → cond b (Some n) (first_same same own (n + 1) q (xs ++ o ∷ []))
          ≡ option_or (cond b (Some n) (first_same same own (n + 1) q xs)) (cond (hits own (n + length (x ∷ xs)) q o) (Some (n + length (x ∷ xs))) None)
      by true later = refl
      by false later = later

  bounded : (own n p : ℕ) (q : K) (xs : List (Option K)) → first_same same own n q xs ≡ Some p → p < n + length xs
  bounded own n p q [] e = absurd cc
  bounded own n p q (x ∷ xs) e = by (hits own n q x) e (bounded own (n + 1) p q xs)
    where
      by : (b : Bool) → cond b (Some n) (first_same same own (n + 1) q xs) ≡ Some p → (first_same same own (n + 1) q xs ≡ Some p → p < n + 1 + length xs) → p < n + length (x ∷ xs)
      by true is later = let here : n ≡ p = ap (λ o. unwrap_or o n) is in omega (arith, here)
      by false is later = omega (arith, later is)

  not_zero : (n : ℕ) → 0 < n → (n == 0) ≡ false
  not_zero n some = ne_eqb n 0 (λ e. omega (arith, some, e))

  -- where none is the same, there is no other
  none_other : (own n : ℕ) (q : K) (xs : List (Option K)) → 0 < n → first_same same 0 n q xs ≡ None → first_same same own n q xs ≡ None
  none_other own n q [] some e = refl
  none_other own n q (x ∷ xs) some e =
      by (n == 0) (option_map_or (same q) x false) (n == own) (not_zero n some) e (none_other own (n + 1) q xs (omega arith))
    where
      by : (a b c : Bool) → a ≡ false → cond (not a && b) (Some n) (first_same same 0 (n + 1) q xs) ≡ None → (first_same same 0 (n + 1) q xs ≡ None → first_same same own (n + 1) q xs ≡ None)
          → cond (not c && b) (Some n) (first_same same own (n + 1) q xs) ≡ None
      by true b c not_a is later = absurd cc
      by false true c not_a is later = absurd cc
      by false false true not_a is later = later is
      by false false false not_a is later = later is

  -- the first is another than one at another position
  first_other : (own n p : ℕ) (q : K) (xs : List (Option K)) → 0 < n → first_same same 0 n q xs ≡ Some p → (p == own) ≡ false → first_same same own n q xs ≡ Some p
  first_other own n p q [] some e apart = absurd cc
  first_other own n p q (x ∷ xs) some e apart =
      by (n == 0) (option_map_or (same q) x false) (n == own) refl (not_zero n some) e (λ later. first_other own (n + 1) p q xs (omega arith) later apart)
    where
      by : (a b c : Bool) → (n == own) ≡ c → a ≡ false → cond (not a && b) (Some n) (first_same same 0 (n + 1) q xs) ≡ Some p
          → (first_same same 0 (n + 1) q xs ≡ Some p → first_same same own (n + 1) q xs ≡ Some p)
          → cond (not c && b) (Some n) (first_same same own (n + 1) q xs) ≡ Some p
      by true b c own_is not_a is later = absurd cc
      by false true true own_is not_a is later =
          let here : n ≡ p = ap (λ o. unwrap_or o n) is in
          let no : true ≡ false = sym own_is ∙ (ap (λ m. m == own) here ∙ apart) in absurd cc
      by false true false own_is not_a is later = is
      by false false true own_is not_a is later = later is
      by false false false own_is not_a is later = later is

  module _ (laws : IsEquivalence same) where
    same_alike : (own n : ℕ) (q k : K) (xs : List (Option K)) → same q k ≡ true → first_same same own n q xs ≡ first_same same own n k xs
    same_alike own n q k [] alike = refl
    same_alike own n q k (x ∷ xs) alike =
        ap₂ (λ (b : Bool) (o : Option ℕ). cond (not (n == own) && b) (Some n) o) (one x) (same_alike own (n + 1) q k xs alike)
      where
        one : (x : Option K) → option_map_or (same q) x false ≡ option_map_or (same k) x false
        one None = refl
        one (Some y) = laws.congr q k y alike

    -- those of keys with one more
    two_other : (xs : List (Option K)) (o : Option K) (q : K) → option_map_or (same q) o false ≡ false → first_two same q (xs ++ o ∷ []) ≡ first_two same q xs
    two_other xs o q other =
        ap (option_map {U = FirstTwo} (λ first. record { first = first; second = first_same same first 1 q (xs ++ o ∷ []) })) (stays 0) ∙ by (first_same same 0 1 q xs)
      where
        stays : (own : ℕ) → first_same same own 1 q (xs ++ o ∷ []) ≡ first_same same own 1 q xs
        stays own = first_last own 1 q xs o
            ∙ (ap (λ b. option_or (first_same same own 1 q xs) (cond (not (1 + length xs == own) && b) (Some (1 + length xs)) None)) other
            ∙ (ap (λ b. option_or (first_same same own 1 q xs) (cond b (Some (1 + length xs)) None)) (and_false (not (1 + length xs == own))) ∙ or_none (first_same same own 1 q xs)))

        by : (found : Option ℕ) → option_map {U = FirstTwo} (λ first. record { first = first; second = first_same same first 1 q (xs ++ o ∷ []) }) found
            ≡ option_map {U = FirstTwo} (λ first. record { first = first; second = first_same same first 1 q xs }) found
        by None = refl
        by (Some p) = ap (λ (s : Option ℕ). Some (record { first = p; second = s })) (stays p)

    two_same : (xs : List (Option K)) (k q : K) → same q k ≡ true → first_two same q (xs ++ Some k ∷ []) ≡ Some (with_position (first_two same k xs) (1 + length xs))
    two_same xs k q alike = by (first_same same 0 1 q xs) refl (same_alike 0 1 q k xs alike)
      where
        at : ℕ
        at = 1 + length xs

        last : (own : ℕ) → first_same same own 1 q (xs ++ Some k ∷ []) ≡ option_or (first_same same own 1 q xs) (cond (not (at == own)) (Some at) None)
        last own = first_last own 1 q xs (Some k)
            ∙ (ap (λ b. option_or (first_same same own 1 q xs) (cond (not (at == own) && b) (Some at) None)) alike
            ∙ ap (λ b. option_or (first_same same own 1 q xs) (cond b (Some at) None)) (and_true (not (at == own))))

        behind : (own : ℕ) → (at == own) ≡ false → first_same same own 1 q (xs ++ Some k ∷ []) ≡ option_or (first_same same own 1 q xs) (Some at)
        behind own apart = last own ∙ ap (λ b. option_or (first_same same own 1 q xs) (cond (not b) (Some at) None)) apart

        by : (found : Option ℕ) → first_same same 0 1 q xs ≡ found → first_same same 0 1 q xs ≡ first_same same 0 1 k xs
            → first_two same q (xs ++ Some k ∷ []) ≡ Some (with_position (first_two same k xs) at)
        by None e turned =
            let first : first_same same 0 1 q (xs ++ Some k ∷ []) ≡ Some at
            = behind 0 (not_zero at (omega arith)) ∙ ap (λ o. option_or o (Some at)) e in
            let second : first_same same at 1 q (xs ++ Some k ∷ []) ≡ None
            = last at ∙ (ap₂ (λ (o : Option ℕ) (b : Bool). option_or o (cond (not b) (Some at) None)) (none_other at 1 q xs (omega arith) e) (eq-eqb at at refl)) in
            ap (option_map (λ f. record { first = f; second = first_same same f 1 q (xs ++ Some k ∷ []) })) first
            ∙ (ap (λ (s : Option ℕ). Some (record { first = at; second = s })) second
            ∙ ap (λ o. Some (with_position (option_map (λ f. record { first = f; second = first_same same f 1 k xs }) o) at)) (sym (sym turned ∙ e)))
        by (Some p) e turned =
            let first : first_same same 0 1 q (xs ++ Some k ∷ []) ≡ Some p
            = last 0 ∙ ap (λ o. option_or o (cond (not (at == 0)) (Some at) None)) e in
            let less : p < at = bounded 0 1 p q xs e in
            let second : first_same same p 1 q (xs ++ Some k ∷ []) ≡ option_or (first_same same p 1 k xs) (Some at)
            = behind p (ne_eqb at p (λ h. omega (arith, h, less))) ∙ ap (λ o. option_or o (Some at)) (same_alike p 1 q k xs alike) in
            ap (option_map (λ f. record { first = f; second = first_same same f 1 q (xs ++ Some k ∷ []) })) first
            ∙ (ap (λ (s : Option ℕ). Some (record { first = p; second = s })) second
            ∙ ap (λ o. Some (with_position (option_map (λ f. record { first = f; second = first_same same f 1 k xs }) o) at)) (sym (sym turned ∙ e)))

    -- ---- the steps of a loop over the keys

    module _ (xs : List (Option K)) (i : ℕ) (d : Option K) (within : i < length xs) where
      counted : 1 + length (take i xs) ≡ i + 1
      counted = let short = length-take-le i xs (omega (arith, within)) in omega (arith, short)

      more : (o : Option K) → get_or xs i d ≡ o → take (i + 1) xs ≡ take i xs ++ o ∷ []
      more o is = take_more xs i d within ∙ ap (λ y. take i xs ++ y ∷ []) is

      pub noted : (k : K) (look new : K → Option FirstTwo) → get_or xs i d ≡ Some k → ((q : K) → new q ≡ cond (same k q) (Some (with_position (look k) (i + 1))) (look q))
          → ((q : K) → look q ≡ first_two same q (take i xs)) → (q : K) → new q ≡ first_two same q (take (i + 1) xs)
      noted k look new is put so q = put q ∙ (by (same q k) refl ∙ ap (first_two same q) (sym (more (Some k) is)))
        where
          by : (b : Bool) → same q k ≡ b → cond (same k q) (Some (with_position (look k) (i + 1))) (look q) ≡ first_two same q (take i xs ++ Some k ∷ [])
          by true e =
              ap (λ b. cond b (Some (with_position (look k) (i + 1))) (look q)) (laws.symm k q ∙ e)
              ∙ (ap₂ (λ o n. Some (with_position o n)) (so k) (sym counted) ∙ sym (two_same (take i xs) k q e))
          by false e = ap (λ b. cond b (Some (with_position (look k) (i + 1))) (look q)) (laws.symm k q ∙ e) ∙ (so q ∙ sym (two_other (take i xs) (Some k) q e))

      pub passed : (look : K → Option FirstTwo) → get_or xs i d ≡ None
          → ((q : K) → look q ≡ first_two same q (take i xs)) → (q : K) → look q ≡ first_two same q (take (i + 1) xs)
      passed look is so q = so q ∙ (sym (two_other (take i xs) None q refl) ∙ ap (first_two same q) (sym (more None is)))

  pub all_noted : (xs : List (Option K)) (i : ℕ) (look : K → Option FirstTwo) → length xs ≤ i → ((q : K) → look q ≡ first_two same q (take i xs)) → (q : K) → look q ≡ first_two same q xs
  all_noted xs i look ended so q = so q ∙ ap (first_two same q) (take_all i xs ended)

  -- what the first two tell
  pub told : (own : ℕ) (x : K) (xs : List (Option K)) (o : Option FirstTwo) → o ≡ first_two same x xs → option_and_then (first_but own) o ≡ first_same same own 1 x xs
  told own x xs o is = ap (option_and_then (first_but own)) is ∙ by (first_same same 0 1 x xs) refl
    where
      by : (found : Option ℕ) → first_same same 0 1 x xs ≡ found
          → option_and_then (first_but own) (option_map (λ (f : ℕ). record { first = f; second = first_same same f 1 x xs }) found) ≡ first_same same own 1 x xs
      by None e = sym (none_other own 1 x xs (omega arith) e)
      by (Some p) e = at (p == own) refl
        where
          at : (b : Bool) → (p == own) ≡ b → cond b (first_same same p 1 x xs) (Some p) ≡ first_same same own 1 x xs
          at true is = ap (λ n. first_same same n 1 x xs) (eqb-true p own is)
          at false is = sym (first_other own 1 p x xs (omega arith) e is)

  -- one more is told
  pub told_more : (all xs : List (Option K)) (n i : ℕ) (key : Option K) (old new whole : List (Option ℕ)) (other : Option ℕ) → i < length xs → key ≡ get_or xs i key
      → other ≡ option_and_then (λ x. first_same same n 1 x all) key → new ≡ old ++ other ∷ []
      → old ++ others_from same all n (drop i xs) ≡ whole → new ++ others_from same all (n + 1) (drop (i + 1) xs) ≡ whole
  told_more all xs n i key old new whole other within is here pushed so =
      let rest = others_from same all (n + 1) (drop (i + 1) xs) in
      ap (λ os. os ++ rest) pushed ∙ (append_assoc old (other ∷ []) rest
      ∙ (ap (λ o. old ++ o ∷ rest) (here ∙ ap (option_and_then (λ x. first_same same n 1 x all)) is)
      ∙ (sym (at_drop_more (λ ys. old ++ others_from same all n ys) xs i key within) ∙ so)))

-- How often keys come among those that may be missing.
use Rattle.std.proofs.Common.{◌≡◌, ℕ, ◌+◌, ◌<◌, Bool, false, cond, List, [], ◌∷◌, ◌++◌, length, take, drop, map, get_or, count_by, Option, Some, None, sym, ap, ◌∙◌, append_assoc, arith}
use Rattle.std.proofs.lemmas.List.{take_more, at_drop_more}
use Rattle.std.proofs.lemmas.List.Sums.{sum_by-cons, sum_by_push}
use Rattle.std.specs.Option.{option_map_or}
use Rattle.ycheck.specs.Repeated.{times_among}

module _ {K : Type 0} (same : K → K → Bool) where
  times_cons : (x : Option K) (xs : List (Option K)) (q : K) → times_among same (x ∷ xs) q ≡ cond (option_map_or (same q) x false) 1 0 + times_among same xs q
  times_cons x xs q = sum_by-cons (λ (o : Option K). cond (option_map_or (same q) o false) 1 0) x xs

  times_last : (xs : List (Option K)) (x : Option K) (q : K) → times_among same (xs ++ x ∷ []) q ≡ times_among same xs q + cond (option_map_or (same q) x false) 1 0
  times_last [] x q = times_cons x [] q ∙ omega arith
  times_last (y ∷ xs) x q =
      let first = times_cons y (xs ++ x ∷ []) q in
      let rest = times_last xs x q in
      let whole = times_cons y xs q in
      omega (arith, first, rest, whole)

  times_more : (xs : List (Option K)) (i : ℕ) (d x : Option K) (q : K) → i < length xs → get_or xs i d ≡ x
      → times_among same (take (i + 1) xs) q ≡ times_among same (take i xs) q + cond (option_map_or (same q) x false) 1 0
  times_more xs i d x q within is =
      ap (λ ys. times_among same ys q) (take_more xs i d within ∙ ap (λ y. take i xs ++ y ∷ []) is) ∙ times_last (take i xs) x q

  module _ (xs : List (Option K)) (i : ℕ) (d : Option K) (q : K) (within : i < length xs) where
    -- a key that is kept
    pub counted_some : {X : Type 0} (key : X → K) (k : X) (old new : List X) → get_or xs i d ≡ Some (key k) → new ≡ old ++ k ∷ []
        → count_by (λ z. same q (key z)) old ≡ times_among same (take i xs) q → count_by (λ z. same q (key z)) new ≡ times_among same (take (i + 1) xs) q
    counted_some key k old new is pushed so =
        ap (count_by (λ z. same q (key z))) pushed
        ∙ (sum_by_push (λ z. cond (same q (key z)) 1 0) old k
        ∙ (ap (λ n. n + cond (same q (key k)) 1 0) so ∙ sym (times_more xs i d (Some (key k)) q within is)))

    -- none is there
    pub counted_none : (n : ℕ) → get_or xs i d ≡ None → n ≡ times_among same (take i xs) q → n ≡ times_among same (take (i + 1) xs) q
    counted_none n is so = let more = times_more xs i d None q within is in omega (arith, so, more)

-- marks, one more
pub mark_more : {A : Type 0} (f : A → Bool) (xs : List A) (i : ℕ) (x : A) (old new whole : List Bool) (b : Bool) → i < length xs → x ≡ get_or xs i x → b ≡ f x
    → new ≡ old ++ b ∷ [] → old ++ map f (drop i xs) ≡ whole → new ++ map f (drop (i + 1) xs) ≡ whole
mark_more f xs i x old new whole b within is here pushed so =
    ap (λ bs. bs ++ map f (drop (i + 1) xs)) pushed ∙ (append_assoc old (b ∷ []) (map f (drop (i + 1) xs))
    ∙ (ap (λ y. old ++ y ∷ map f (drop (i + 1) xs)) (here ∙ ap f is)
    ∙ (sym (at_drop_more (λ ys. old ++ map f ys) xs i x within) ∙ so)))

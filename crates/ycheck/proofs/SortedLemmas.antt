-- Keys in their order: those that come more than once stand beside each other.
use Rattle.std.proofs.Common.{◌≡◌, ℕ, ◌+◌, ◌-◌, ◌<◌, ◌≤◌, Bool, true, false, cond, ltb, List, [], ◌∷◌, ◌++◌, length, take, get_or, take_all, Result, Ok, Err, refl, sym, ap, ap₂, ◌∙◌, arith}
use Rattle.std.specs.Prelude.{count_by, is_ok, ◌||◌}
use Rattle.std.specs.Cmp.{IsTotalOrder}
use Rattle.std.specs.List.{All, AllWithin, list_any}
use Rattle.std.specs.List.Sorted.{IsSortedBy, IsBinarySearchResult, IsSearchInRange}
use Rattle.std.specs.Ordering.{is_eq, is_lt, ordering_reverse}
use Rattle.std.specs.declared.cmp.Ordering.{Ordering}
use Rattle.std.specs.declared.cmp.Ordering.TheVariants.{Less, Equal, Greater}
use Rattle.std.proofs.lemmas.Bool.{lt-ltb, le-ltb, ltb-true, ltb-false}
use Rattle.std.proofs.lemmas.Cmp.{alike_right, tied_back, tied_itself}
use Rattle.std.proofs.lemmas.List.{get_or-take, get_or_default, get_or_push, length-take, length_push}
use Rattle.std.proofs.lemmas.List.Elements.{All-head, All-tail}
use Rattle.std.proofs.lemmas.List.Folds.{list_any-append, list_any_at, list_any_none}
use Rattle.std.proofs.lemmas.List.Kept.{IsSortedBy-push}
use Rattle.std.proofs.lemmas.List.Sorted.{ranks_by, searchable_from_sorted, sorted_far}
use Rattle.std.proofs.lemmas.List.Sums.{count_by-le-length, sum_by-cons, sum_by_more}

none_counted : {X : Type 0} (p : X → Bool) (xs : List X) → All (λ x. p x ≡ false) xs → count_by p xs ≡ 0
none_counted p [] none = refl
none_counted p (x ∷ xs) none =
    sum_by-cons (λ y. cond (p y) 1 0) x xs
    ∙ (ap (λ (b : Bool). cond b 1 0 + count_by p xs) (All-head (λ y. p y ≡ false) x xs none)
    ∙ omega (arith, none_counted p xs (All-tail (λ y. p y ≡ false) x xs none)))

or_false : (b : Bool) → (b || false) ≡ b
or_false true = refl
or_false false = refl

or_true : (b : Bool) → (b || true) ≡ true
or_true true = refl
or_true false = refl

module _ {K : Type 0} {R : K → K → Ordering} (o : IsTotalOrder R) {X : Type 0} (key : X → K) where
  abbrev before : X → X → Bool
  before x y = is_lt (R (key x) (key y))

  abbrev has : K → List X → Bool
  has q xs = list_any (λ x. is_eq (R q (key x))) xs

  abbrev count : K → List X → ℕ
  count q xs = count_by (λ x. is_eq (R q (key x))) xs

  -- those of the first so many that come more than once there, in their order
  abbrev pub Twice : List X → ℕ → List X → Type 0
  Twice xs i ys = record {
    rising : IsSortedBy before ys;
    below : (d : X) → 0 < length ys → before (get_or xs (i - 1) d) (get_or ys (length ys - 1) d) ≡ false;
    all : (q : K) → has q ys ≡ ltb 1 (count q (take i xs));
  }

  pub twice_first : (xs ys : List X) → ys ≡ [] → Twice xs 1 ys
  twice_first xs [] is = record {
    rising = λ k d low within. absurd (omega (arith, within));
    below = λ d some. absurd (omega (arith, some));
    all = λ q. sym (le-ltb 1 (count q (take 1 xs)) (omega (arith, count_by-le-length (λ x. is_eq (R q (key x))) (take 1 xs), length-take 1 xs)));
  }
  twice_first xs (y ∷ ys) is = absurd cc

  equal : (r : Ordering) → is_eq r ≡ true → r ≡ Equal
  equal Less e = absurd cc
  equal Equal e = refl
  equal Greater e = absurd cc

  -- one that is another than the last, and comes no earlier, comes later
  later : (x y : X) → before y x ≡ false → is_eq (R (key x) (key y)) ≡ false → R (key x) (key y) ≡ Less
  later x y no_less other = by (R (key x) (key y)) refl
    where
      by : (r : Ordering) → R (key x) (key y) ≡ r → R (key x) (key y) ≡ Less
      by Less e = e
      by Equal e = let no : true ≡ false = sym (ap is_eq e) ∙ other in absurd cc
      by Greater e =
          let less : R (key y) (key x) ≡ Less = o.antisymm (key y) (key x) ∙ ap ordering_reverse e in
          let no : true ≡ false = sym (ap is_lt less) ∙ no_less in absurd cc

  -- what comes no later than the last is not the next one, where that is another than the last
  unlike : (q : K) (x y z : X) → R (key x) (key y) ≡ Less → R q (key y) ≡ Equal → before x z ≡ false → is_eq (R q (key z)) ≡ false
  unlike q x y z less same no_later = by (R q (key z)) refl
    where
      by : (r : Ordering) → R q (key z) ≡ r → is_eq r ≡ false
      by Less e = refl
      by Equal e =
          let tied : R (key z) (key y) ≡ Equal = sym (o.congr q (key z) (key y) e) ∙ same in
          let no : true ≡ false = sym (ap is_lt (alike_right o (key z) (key y) (key x) tied ∙ less)) ∙ no_later in absurd cc
      by Greater e = refl

  module _ (xs ys : List X) (up : IsSortedBy before xs) (i : ℕ) (x y : X) (some : 0 < i) (within : i < length xs)
      (x_is : x ≡ get_or xs (i - 1) x) (y_is : y ≡ get_or xs i y) (so : Twice xs i ys) where
    prior : i - 1 + 1 ≡ i
    prior = omega (arith, some)

    x_at : (d : X) → get_or xs (i - 1) d ≡ x
    x_at d = get_or_default xs (i - 1) d x (omega (arith, within)) ∙ sym x_is

    y_at : (d : X) → get_or xs i d ≡ y
    y_at d = get_or_default xs i d y within ∙ sym y_is

    no_less : before y x ≡ false
    no_less = ap (λ z. before z x) (sym (ap (λ n. get_or xs n x) prior ∙ y_at x))
        ∙ (ap (before (get_or xs (i - 1 + 1) x)) (sym (x_at x)) ∙ up (i - 1) x (omega arith) (omega (arith, some, within)))

    -- no key so far is above the next one
    below_next : (d : X) → 0 < length ys → before y (get_or ys (length ys - 1) d) ≡ false
    below_next d there = (ranks_by o key).chain y x (get_or ys (length ys - 1) d) no_less (ap (λ z. before z (get_or ys (length ys - 1) d)) (sym (x_at d)) ∙ so.below d there)

    one_more : (q : K) → count q (take (i + 1) xs) ≡ count q (take i xs) + cond (is_eq (R q (key y))) 1 0
    one_more q = sum_by_more (λ z. cond (is_eq (R q (key z))) 1 0) xs i y within ∙ ap (λ z. count q (take i xs) + cond (is_eq (R q (key z))) 1 0) (y_at y)

    last_counts : (q : K) → is_eq (R q (key x)) ≡ true → 0 < count q (take i xs)
    last_counts q e =
        let less : i - 1 < length xs = omega (arith, within) in
        let last : count q (take (i - 1 + 1) xs) ≡ count q (take (i - 1) xs) + 1
        = sum_by_more (λ z. cond (is_eq (R q (key z))) 1 0) xs (i - 1) x less ∙ ap (λ z. count q (take (i - 1) xs) + cond (is_eq (R q (key z))) 1 0) (x_at x)
        ∙ ap (λ (b : Bool). count q (take (i - 1) xs) + cond b 1 0) e in
        let here : count q (take (i - 1 + 1) xs) ≡ count q (take i xs) = ap (λ n. count q (take n xs)) prior in
        omega (arith, last, here)

    none_so_far : (q : K) → R (key x) (key y) ≡ Less → R q (key y) ≡ Equal → count q (take i xs) ≡ 0
    none_so_far q less same = none_counted (λ z. is_eq (R q (key z))) (take i xs) (λ k d short.
        let low : k < i = omega (arith, short, length-take i xs) in
        let far : before x (get_or xs k d) ≡ false
        = ap (λ z. before z (get_or xs k d)) (sym (x_at d)) ∙ sorted_far before (ranks_by o key) xs up k (i - 1) d (omega (arith, low)) (omega (arith, within)) in
        ap (λ z. is_eq (R q (key z))) (get_or-take i xs k d low) ∙ unlike q x y (get_or xs k d) less same far)

    -- the next key is that of the last one
    pub twice_same : (zs : List X) → zs ≡ ys ++ y ∷ [] → is_eq (R (key x) (key y)) ≡ true → Twice xs (i + 1) zs
    twice_same zs is tied = rw is (record {
      rising = IsSortedBy-push before ys y so.rising below_next;
      below = λ d there.
          ap₂ before (ap (λ n. get_or xs n d) back ∙ y_at d) (get_or_push ys y d (length (ys ++ y ∷ []) - 1) (omega (arith, length_push ys y)))
          ∙ ap is_lt (tied_itself o (key y));
      all = λ q. list_any-append (λ z. is_eq (R q (key z))) ys (y ∷ [])
          ∙ by q (is_eq (R q (key y))) refl;
    })
      where
        back : i + 1 - 1 ≡ i
        back = omega arith

        by : (q : K) (b : Bool) → is_eq (R q (key y)) ≡ b → (has q ys || (is_eq (R q (key y)) || false)) ≡ ltb 1 (count q (take (i + 1) xs))
        by q true e =
            let both : R (key x) (key y) ≡ Equal = equal (R (key x) (key y)) tied in
            let alike : is_eq (R q (key x)) ≡ true = ap is_eq (alike_right o (key x) (key y) q both) ∙ e in
            let more = one_more q ∙ ap (λ (b : Bool). count q (take i xs) + cond b 1 0) e in
            ap (λ b. has q ys || (b || false)) e ∙ (or_true (has q ys) ∙ sym (lt-ltb 1 (count q (take (i + 1) xs)) (omega (arith, more, last_counts q alike))))
        by q false e =
            let more : count q (take (i + 1) xs) ≡ count q (take i xs) = one_more q ∙ (ap (λ (b : Bool). count q (take i xs) + cond b 1 0) e ∙ omega arith) in
            ap (λ b. has q ys || (b || false)) e ∙ (or_false (has q ys) ∙ (so.all q ∙ ap (ltb 1) (sym more)))

    -- it is another
    pub twice_other : is_eq (R (key x) (key y)) ≡ false → Twice xs (i + 1) ys
    twice_other other = record {
      rising = so.rising;
      below = λ d there. ap (λ z. before z (get_or ys (length ys - 1) d)) (ap (λ n. get_or xs n d) back ∙ y_at d) ∙ below_next d there;
      all = λ q. by q (is_eq (R q (key y))) refl;
    }
      where
        back : i + 1 - 1 ≡ i
        back = omega arith

        by : (q : K) (b : Bool) → is_eq (R q (key y)) ≡ b → has q ys ≡ ltb 1 (count q (take (i + 1) xs))
        by q true e =
            let less = later x y no_less other in
            let none = none_so_far q less (equal (R q (key y)) e) in
            let more = one_more q ∙ ap (λ (b : Bool). count q (take i xs) + cond b 1 0) e in
            so.all q ∙ (le-ltb 1 (count q (take i xs)) (omega (arith, none)) ∙ sym (le-ltb 1 (count q (take (i + 1) xs)) (omega (arith, none, more))))
        by q false e =
            let more : count q (take (i + 1) xs) ≡ count q (take i xs) = one_more q ∙ (ap (λ (b : Bool). count q (take i xs) + cond b 1 0) e ∙ omega arith) in
            so.all q ∙ ap (ltb 1) (sym more)

  pub twice_all : (xs ys : List X) (i : ℕ) → length xs ≤ i → Twice xs i ys → (q : K) → has q ys ≡ ltb 1 (count q xs)
  twice_all xs ys i ended so q = so.all q ∙ ap (λ zs. ltb 1 (count q zs)) (take_all i xs ended)

  -- what a binary search finds
  pub searched_is_there : (xs : List X) → IsSortedBy before xs → (q : K) (r : Result ℕ ℕ) → IsSearchInRange r (length xs)
      → IsBinarySearchResult (λ z. R (key z) q) xs r → is_ok r ≡ has q xs
  searched_is_there [] up q (Ok i) within found = absurd (omega (arith, within))
  searched_is_there (x ∷ xs) up q (Ok i) within found =
      sym (list_any_at (λ z. is_eq (R q (key z))) (x ∷ xs) i x within (ap is_eq (tied_back o (key (get_or (x ∷ xs) i x)) q (found x))))
  searched_is_there xs up q (Err i) within found =
      let place = found (searchable_from_sorted o key xs q up) in
      sym (list_any_none (λ z. is_eq (R q (key z))) xs (λ k d short. by k d short (ltb k i) refl place))
    where
      by : (k : ℕ) (d : X) → k < length xs → (b : Bool) → ltb k i ≡ b → AllWithin (λ z. R (key z) q ≡ Less) xs 0 i × AllWithin (λ z. R (key z) q ≡ Greater) xs i (length xs)
          → is_eq (R q (key (get_or xs k d))) ≡ false
      by k d short true e place = ap is_eq (o.antisymm q (key (get_or xs k d)) ∙ ap ordering_reverse (place.0 k d (omega arith) (ltb-true k i e)))
      by k d short false e place = ap is_eq (o.antisymm q (key (get_or xs k d)) ∙ ap ordering_reverse (place.1 k d (ltb-false k i e) short))

-- Numbers that ascend, and the sets that are made of them.
use Rattle.std.proofs.Common.{◌≡◌, ℕ, zero, suc, ◌+◌, ◌<◌, ◌≤◌, ◌&&◌, ℤ, pos, Bool, true, false, cond, List, [], ◌∷◌, ◌++◌, length, get_or, take, drop, map, filter, append_assoc, refl, sym, ap, ap₂, ◌∙◌, arith, inl, inr}
use Rattle.std.specs.Prelude.{int_lt}
use Rattle.std.specs.List.{Contains, list_all, list_any}
use Rattle.std.specs.Cmp.{signed_Decides}
use Rattle.std.specs.Ordering.{int_cmp, int_eq, match_ordering}
use Rattle.std.specs.declared.cmp.Ordering.TheVariants.{Less, Equal, Greater}
use Rattle.std.specs.BTreeSet.{insert_key}
use Rattle.std.proofs.lemmas.Bool.{and_from, and_parts, or_cases, or_left, or_right, false≢true}
use Rattle.std.proofs.lemmas.Int.{ints}
use Rattle.std.proofs.lemmas.List.{drop_more, map-append, take_more}
use Rattle.ylink_types.specs.DerivedView.{Ascend}

-- ---- one key more

not_before : (x y : ℤ) → int_lt x y ≡ true → int_lt y x ≡ false
not_before x y e = grind (arith, ints, e)

pub insert_last : (keys : List ℤ) (k : ℤ) → list_all (λ z. int_lt z k) keys ≡ true → insert_key int_cmp keys k ≡ keys ++ k ∷ []
insert_last [] k all = refl
insert_last (x ∷ xs) k all =
    let both = and_parts (int_lt x k) (list_all (λ z. int_lt z k) xs) all in
    ap (λ b. match_ordering (cond b Less (cond (int_lt x k) Greater Equal)) (k ∷ x ∷ xs) (x ∷ xs) (x ∷ insert_key int_cmp xs k)) (not_before x k both.0)
    ∙ (ap (λ b. match_ordering (cond b Greater Equal) (k ∷ x ∷ xs) (x ∷ xs) (x ∷ insert_key int_cmp xs k)) both.0
    ∙ ap (λ (l : List ℤ). x ∷ l) (insert_last xs k both.1))

-- ---- numbers that ascend

pub ascend_from : (low least : ℕ) (ns : List ℕ) → least ≤ low → Ascend low ns → Ascend least ns
ascend_from low least [] h all = tt
ascend_from low least (n ∷ ns) h all = let a = all.0 in (omega (arith, h, a), all.1)

ascend_at : (low : ℕ) (ns : List ℕ) (i d : ℕ) → Ascend low ns → i < length ns → low ≤ get_or ns i d
ascend_at low [] i d all within = absurd (omega (arith, within))
ascend_at low (n ∷ ns) zero d all within = all.0
ascend_at low (n ∷ ns) (suc i) d all within =
    let a = all.0 in let b = ascend_at (suc n) ns i d all.1 (omega (arith, within)) in omega (arith, a, b)

below_number : (m n : ℕ) → suc m ≤ n → int_lt (pos m) (pos n) ≡ true
below_number m n h = grind (arith, ints, h)

-- those before one are below it
pub ascend_before : (low : ℕ) (ns : List ℕ) (i d : ℕ) → Ascend low ns → i < length ns
    → list_all (λ z. int_lt z (pos (get_or ns i d))) (map pos (take i ns)) ≡ true
ascend_before low [] i d all within = absurd (omega (arith, within))
ascend_before low (n ∷ ns) zero d all within = refl
ascend_before low (n ∷ ns) (suc i) d all within =
    and_from (int_lt (pos n) (pos (get_or ns i d))) (list_all (λ z. int_lt z (pos (get_or ns i d))) (map pos (take i ns)))
    (below_number n (get_or ns i d) (ascend_at (suc n) ns i d all.1 (omega (arith, within))))
    (ascend_before (suc n) ns i d all.1 (omega (arith, within)))

all_kept : (p : ℤ → Bool) (keep : ℕ → Bool) (ns : List ℕ) → list_all p (map pos ns) ≡ true → list_all p (map pos (filter keep ns)) ≡ true
all_kept p keep [] all = refl
all_kept p keep (n ∷ ns) all = by (keep n) (all_kept p keep ns both.1)
  where
    both : (p (pos n) ≡ true) × (list_all p (map pos ns) ≡ true)
    both = and_parts (p (pos n)) (list_all p (map pos ns)) all

    by : (b : Bool) → list_all p (map pos (filter keep ns)) ≡ true → list_all p (map pos (cond b (n ∷ filter keep ns) (filter keep ns))) ≡ true
    by true rest = and_from (p (pos n)) (list_all p (map pos (filter keep ns))) both.0 rest
    by false rest = rest

kept_append : (keep : ℕ → Bool) (ns : List ℕ) (n : ℕ) → map pos (filter keep (ns ++ n ∷ [])) ≡ map pos (filter keep ns) ++ cond (keep n) (pos n ∷ []) []
kept_append keep [] n = by (keep n)
  where
    by : (b : Bool) → map pos (cond b (n ∷ []) []) ≡ cond b (pos n ∷ []) []
    by true = refl
    by false = refl
kept_append keep (m ∷ ns) n = by (keep m) (kept_append keep ns n)
  where
    by : (b : Bool) → map pos (filter keep (ns ++ n ∷ [])) ≡ map pos (filter keep ns) ++ cond (keep n) (pos n ∷ []) []
        → map pos (cond b (m ∷ filter keep (ns ++ n ∷ [])) (filter keep (ns ++ n ∷ []))) ≡ map pos (cond b (m ∷ filter keep ns) (filter keep ns)) ++ cond (keep n) (pos n ∷ []) []
    by true rest = ap (λ (l : List ℤ). pos m ∷ l) rest
    by false rest = rest

module _ (keep : ℕ → Bool) (ns : List ℕ) (i d : ℕ) (within : i < length ns) where
  grown : map pos (filter keep (take (i + 1) ns)) ≡ map pos (filter keep (take i ns)) ++ cond (keep (get_or ns i d)) (pos (get_or ns i d) ∷ []) []
  grown = ap (λ l. map pos (filter keep l)) (take_more ns i d within) ∙ kept_append keep (take i ns) (get_or ns i d)

  -- a number is put behind those kept so far
  number_kept : (keys after : List ℤ) → Ascend 0 ns → keep (get_or ns i d) ≡ true → after ≡ insert_key int_cmp keys (pos (get_or ns i d))
      → keys ≡ map pos (filter keep (take i ns)) → after ≡ map pos (filter keep (take (i + 1) ns))
  number_kept keys after ascend kept put so_far =
      put ∙ (ap (λ ks. insert_key int_cmp ks (pos (get_or ns i d))) so_far
      ∙ (insert_last (map pos (filter keep (take i ns))) (pos (get_or ns i d))
      (all_kept (λ z. int_lt z (pos (get_or ns i d))) keep (take i ns) (ascend_before 0 ns i d ascend within))
      ∙ sym (grown ∙ ap (λ b. map pos (filter keep (take i ns)) ++ cond b (pos (get_or ns i d) ∷ []) []) kept)))

  number_left : (keys : List ℤ) → keep (get_or ns i d) ≡ false → keys ≡ map pos (filter keep (take i ns))
      → keys ≡ map pos (filter keep (take (i + 1) ns))
  number_left keys left so_far =
      so_far ∙ (sym (append_none (map pos (filter keep (take i ns))))
      ∙ sym (grown ∙ ap (λ b. map pos (filter keep (take i ns)) ++ cond b (pos (get_or ns i d) ∷ []) []) left))
    where
      append_none : (xs : List ℤ) → xs ++ [] ≡ xs
      append_none [] = refl
      append_none (x ∷ xs) = ap (λ (l : List ℤ). x ∷ l) (append_none xs)

  pub number_more : (keys after : List ℤ) (b : Bool) → Ascend 0 ns → b ≡ keep (get_or ns i d)
      → after ≡ cond b (insert_key int_cmp keys (pos (get_or ns i d))) keys
      → keys ≡ map pos (filter keep (take i ns)) → after ≡ map pos (filter keep (take (i + 1) ns))
  number_more keys after true ascend is put so_far = number_kept keys after ascend (sym is) put so_far
  number_more keys after false ascend is put so_far = put ∙ number_left keys (sym is) so_far

-- ---- those that two tests keep

bool_same : (x y : Bool) → (x ≡ true → y ≡ true) → (y ≡ true → x ≡ true) → x ≡ y
bool_same true y f g = sym (f refl)
bool_same false false f g = refl
bool_same false true f g = g refl

same_number : (m n : ℕ) → pos m ≡ pos n → m ≡ n
same_number m n e = cc

module _ (keep : ℕ → Bool) where
  kept_so : (ns : List ℕ) (n : ℕ) → list_any (int_eq (pos n)) (map pos (filter keep ns)) ≡ true → keep n ≡ true
  kept_so [] n h = absurd (false≢true h)
  kept_so (m ∷ ns) n h = by (kept_so ns n) (keep m) refl h
    where
      by : (list_any (int_eq (pos n)) (map pos (filter keep ns)) ≡ true → keep n ≡ true) → (b : Bool) → keep m ≡ b → list_any (int_eq (pos n)) (map pos (cond b (m ∷ filter keep ns) (filter keep ns))) ≡ true → keep n ≡ true
      by later true is h = elim (or_cases (int_eq (pos n) (pos m)) (list_any (int_eq (pos n)) (map pos (filter keep ns))) h) [
        | inl first ↦ ap keep (same_number n m ((signed_Decides (pos n) (pos m)).0 first)) ∙ is
        | inr others ↦ later others
      ]
      by later false is h = later h

  so_kept : (ns : List ℕ) (n : ℕ) → Contains ns n → keep n ≡ true → list_any (int_eq (pos n)) (map pos (filter keep ns)) ≡ true
  so_kept ns n at kept = here ns at.0 at.1 at.2
    where
      here : (ms : List ℕ) (i : ℕ) → i < length ms → get_or ms i n ≡ n → list_any (int_eq (pos n)) (map pos (filter keep ms)) ≡ true
      here [] i within is = absurd (omega (arith, within))
      here (m ∷ ms) zero within is =
          ap (λ b. list_any (int_eq (pos n)) (map pos (cond b (m ∷ filter keep ms) (filter keep ms)))) (ap keep is ∙ kept)
          ∙ or_left (int_eq (pos n) (pos m)) (list_any (int_eq (pos n)) (map pos (filter keep ms))) ((signed_Decides (pos n) (pos m)).1 (ap pos (sym is)))
      here (m ∷ ms) (suc i) within is = by (keep m) (here ms i (omega (arith, within)) is)
        where
          by : (b : Bool) → list_any (int_eq (pos n)) (map pos (filter keep ms)) ≡ true
              → list_any (int_eq (pos n)) (map pos (cond b (m ∷ filter keep ms) (filter keep ms))) ≡ true
          by true rest = or_right (int_eq (pos n) (pos m)) (list_any (int_eq (pos n)) (map pos (filter keep ms))) rest
          by false rest = rest

  kept_exactly : (ns : List ℕ) (n : ℕ) → Contains ns n → list_any (int_eq (pos n)) (map pos (filter keep ns)) ≡ keep n
  kept_exactly ns n at = bool_same (list_any (int_eq (pos n)) (map pos (filter keep ns))) (keep n) (kept_so ns n) (so_kept ns n at)

filter_same : (p q : ℕ → Bool) (ns : List ℕ) → ((n : ℕ) → Contains ns n → p n ≡ q n) → filter p ns ≡ filter q ns
filter_same p q [] same = refl
filter_same p q (n ∷ ns) same =
    ap₂ (λ b (l : List ℕ). cond b (n ∷ l) l) (same n (0, omega arith, refl))
    (filter_same p q ns (λ m at. same m (suc at.0, (let low = at.1 in omega (arith, low)), at.2)))

filter_twice : (p q : ℕ → Bool) (ns : List ℕ) → filter q (filter p ns) ≡ filter (λ n. p n && q n) ns
filter_twice p q [] = refl
filter_twice p q (n ∷ ns) = by (p n) (filter_twice p q ns)
  where
    by : (b : Bool) → filter q (filter p ns) ≡ filter (λ m. p m && q m) ns
        → filter q (cond b (n ∷ filter p ns) (filter p ns)) ≡ cond (b && q n) (n ∷ filter (λ m. p m && q m) ns) (filter (λ m. p m && q m) ns)
    by true rest = ap (λ (l : List ℕ). cond (q n) (n ∷ l) l) rest
    by false rest = rest

-- of those that a test keeps, the ones that are among those that another keeps
pub both_kept : (one other : ℕ → Bool) (ns : List ℕ)
    → filter (λ n. list_any (int_eq (pos n)) (map pos (filter other ns))) (filter one ns) ≡ filter (λ n. one n && other n) ns
both_kept one other ns = filter_twice one (λ n. list_any (int_eq (pos n)) (map pos (filter other ns))) ns
    ∙ filter_same _ _ ns (λ n at. ap (λ b. one n && b) (kept_exactly other ns n at))

-- ---- those that a test keeps, one after another

pub next_held : (keep : ℕ → Bool) (ns : List ℕ) (i d : ℕ) (held after total : List ℕ) (b : Bool) → i < length ns → b ≡ keep (get_or ns i d)
    → after ≡ held ++ cond b (get_or ns i d ∷ []) [] → held ++ filter keep (drop i ns) ≡ total → after ++ filter keep (drop (i + 1) ns) ≡ total
next_held keep ns i d held after total b within is added so_far =
    let x = get_or ns i d in
    let rest = filter keep (drop (i + 1) ns) in
    ap (λ l. l ++ rest) added
    ∙ (append_assoc held (cond b (x ∷ []) []) rest
    ∙ (ap (λ l. held ++ l) (in_front b rest ∙ ap (λ c. cond c (x ∷ rest) rest) is)
    ∙ (sym (ap (λ l. held ++ filter keep l) (drop_more ns i d within)) ∙ so_far)))
  where
    in_front : (c : Bool) (rest : List ℕ) → cond c (get_or ns i d ∷ []) [] ++ rest ≡ cond c (get_or ns i d ∷ rest) rest
    in_front true rest = refl
    in_front false rest = refl

-- ---- the set of some numbers

pub kept_ascend : (keep : ℕ → Bool) (low : ℕ) (ns : List ℕ) → Ascend low ns → Ascend low (filter keep ns)
kept_ascend keep low [] all = tt
kept_ascend keep low (n ∷ ns) all = by (keep n) (kept_ascend keep (suc n) ns all.1)
  where
    by : (b : Bool) → Ascend (suc n) (filter keep ns) → Ascend low (cond b (n ∷ filter keep ns) (filter keep ns))
    by true rest = (all.0, rest)
    by false rest = ascend_from (suc n) low (filter keep ns) (let a = all.0 in omega (arith, a)) rest

pub number_put : (ns : List ℕ) (i d : ℕ) → i < length ns → (keys after : List ℤ) → Ascend 0 ns → after ≡ insert_key int_cmp keys (pos (get_or ns i d))
    → keys ≡ map pos (take i ns) → after ≡ map pos (take (i + 1) ns)
number_put ns i d within keys after ascend put so_far =
    put ∙ (ap (λ ks. insert_key int_cmp ks (pos (get_or ns i d))) so_far
    ∙ (insert_last (map pos (take i ns)) (pos (get_or ns i d)) (ascend_before 0 ns i d ascend within)
    ∙ sym (ap (map pos) (take_more ns i d within) ∙ map-append pos (take i ns) (get_or ns i d ∷ []))))

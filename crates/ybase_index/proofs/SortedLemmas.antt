-- Names in their order, from sorted texts.
use Rattle.std.proofs.Common.{◌≡◌, ◌≢◌, ℕ, zero, suc, ◌+◌, ◌-◌, ◌<◌, ◌≤◌, Bool, true, false, cond, ◌&&◌, List, [], ◌∷◌, ◌++◌, length, get_or, slice_set, Option, Some, None, ◌⊎◌, inl, inr, refl, sym, ap, ap₂, subst, ◌∙◌, arith}
use Rattle.std.specs.Prelude.{◌==◌, not, slice_get}
use Rattle.std.specs.List.{list_all}
use Rattle.std.specs.List.Sorted.{IsPermutation, IsSorted}
use Rattle.std.specs.Ordering.{is_eq, is_lt, nat_cmp, ordering_reverse, ordering_then}
use Rattle.std.specs.declared.cmp.Ordering.{Ordering}
use Rattle.std.specs.declared.cmp.Ordering.TheVariants.{Less, Equal, Greater}
use Rattle.std.proofs.lemmas.Bool.{and_parts, eq-eqb, eqb-true}
use Rattle.std.proofs.lemmas.Cmp.{nat_list_cmp_total}
use Rattle.std.proofs.lemmas.List.{get_or-set_same, get_or-set_other}
use Rattle.std.proofs.lemmas.List.Sorted.{Contains-permutation}
use Rattle.std.proofs.lemmas.Map.Text.{is_eq-slice_cmp}
use Rattle.std.proofs.lemmas.Option.{slice_get_within, get_or_from_slice_get}
use Rattle.std.proofs.lemmas.Slice.Eq.{bytes_eq-Decides}
use Rattle.yspec.specs.text.Text.{Text, is_text}
use Rattle.yspec.proofs.BasicLemmas.{same_text}
use Rattle.ybase_index.specs.Names.{ascends, number_among}
use Rattle.ybase_index.specs.Sorted.{Named, compared, Ascend, HaveAll, Stands}

-- ---- one text and another

same_order : (t : Text) → compared t t ≡ Equal
same_order t = by (compared t t) (is_eq-slice_cmp t t ∙ same_text t)
  where
    by : (r : Ordering) → is_eq r ≡ true → r ≡ Equal
    by Less e = absurd cc
    by Equal e = refl
    by Greater e = absurd cc

-- a text that is another than the last, and comes no earlier, comes after it
behind : (last t : Text) → is_lt (compared t last) ≡ false → is_text last t ≡ false → compared last t ≡ Less
behind last t no_less other = by (compared t last) refl
  where
    by : (r : Ordering) → compared t last ≡ r → compared last t ≡ Less
    by Less e = let no : true ≡ false = sym (ap is_lt e) ∙ no_less in absurd cc
    by Equal e =
        let same : compared last t ≡ Equal = nat_list_cmp_total.antisymm last t ∙ ap ordering_reverse e in
        let no : true ≡ false = sym (sym (is_eq-slice_cmp last t) ∙ ap is_eq same) ∙ other in absurd cc
    by Greater e = nat_list_cmp_total.antisymm last t ∙ ap ordering_reverse e

-- what doesn't come after the last comes before what comes after that
earlier : (last t x : Text) → compared last t ≡ Less → not (is_lt (compared last x)) ≡ true → compared x t ≡ Less
earlier last t x after stands = by (compared last x) refl
  where
    by : (r : Ordering) → compared last x ≡ r → compared x t ≡ Less
    by Less e = let no : false ≡ true = sym (ap (λ r. not (is_lt r)) e) ∙ stands in absurd cc
    by Equal e =
        let same : last ≡ x = (bytes_eq-Decides last x).0 (sym (is_eq-slice_cmp last x) ∙ ap is_eq e) in
        ap (λ s. compared s t) (sym same) ∙ after
    by Greater e = nat_list_cmp_total.trans x last t (nat_list_cmp_total.antisymm x last ∙ ap ordering_reverse e) after

apart : (x t : Text) → compared x t ≡ Less → is_text t x ≡ false
apart x t less = sym (is_eq-slice_cmp t x) ∙ ap is_eq (nat_list_cmp_total.antisymm t x ∙ ap ordering_reverse less)

no_later : (x t : Text) → compared x t ≡ Less → not (is_lt (compared t x)) ≡ true
no_later x t less = ap (λ r. not (is_lt r)) (nat_list_cmp_total.antisymm t x ∙ ap ordering_reverse less)

all_push : (test : ℕ → Bool) (ns : List ℕ) (n : ℕ) → list_all test ns ≡ true → test n ≡ true → list_all test (ns ++ n ∷ []) ≡ true
all_push test [] n all is = ap (λ b. b && true) is
all_push test (m ∷ ns) n all is =
    let parts = and_parts (test m) (list_all test ns) all in
    ap₂ (λ a b. a && b) parts.0 (all_push test ns n parts.1 is)

-- ---- one name more

module _ (text_at : ℕ → Text) where
  pub kept_among : (t : Text) (number : ℕ) (ns : List ℕ) (n : ℕ) → number_among text_at ns t ≡ Some number → number_among text_at (ns ++ n ∷ []) t ≡ Some number
  kept_among t number [] n e = absurd cc
  kept_among t number (m ∷ ns) n e = by (is_text t (text_at m)) e (kept_among t number ns n)
    where
      by : (b : Bool) → cond b (Some m) (number_among text_at ns t) ≡ Some number
          → (number_among text_at ns t ≡ Some number → number_among text_at (ns ++ n ∷ []) t ≡ Some number)
          → cond b (Some m) (number_among text_at (ns ++ n ∷ []) t) ≡ Some number
      by true f rest = f
      by false f rest = rest f

  are_before : (last t : Text) → compared last t ≡ Less → (ns : List ℕ) → list_all (λ n. not (is_lt (compared last (text_at n)))) ns ≡ true
      → list_all (λ n. is_lt (compared (text_at n) t)) ns ≡ true
  are_before last t after [] all = refl
  are_before last t after (n ∷ ns) all =
      let parts = and_parts (not (is_lt (compared last (text_at n)))) (list_all (λ m. not (is_lt (compared last (text_at m)))) ns) all in
      ap₂ (λ a b. a && b) (ap is_lt (earlier last t (text_at n) after parts.0)) (are_before last t after ns parts.1)

  no_later_all : (last t : Text) → compared last t ≡ Less → (ns : List ℕ) → list_all (λ n. not (is_lt (compared last (text_at n)))) ns ≡ true
      → list_all (λ n. not (is_lt (compared t (text_at n)))) ns ≡ true
  no_later_all last t after [] all = refl
  no_later_all last t after (n ∷ ns) all =
      let parts = and_parts (not (is_lt (compared last (text_at n)))) (list_all (λ m. not (is_lt (compared last (text_at m)))) ns) all in
      ap₂ (λ a b. a && b) (no_later (text_at n) t (earlier last t (text_at n) after parts.0)) (no_later_all last t after ns parts.1)

  ascends_push : (ns : List ℕ) (n : ℕ) → ascends text_at ns ≡ true → list_all (λ m. is_lt (compared (text_at m) (text_at n))) ns ≡ true
      → ascends text_at (ns ++ n ∷ []) ≡ true
  ascends_push [] n up all = refl
  ascends_push (m ∷ ns) n up all =
      let first = and_parts (list_all (λ k. is_lt (compared (text_at m) (text_at k))) ns) (ascends text_at ns) up in
      let less = and_parts (is_lt (compared (text_at m) (text_at n))) (list_all (λ k. is_lt (compared (text_at k) (text_at n))) ns) all in
      ap₂ (λ a b. a && b) (all_push (λ k. is_lt (compared (text_at m) (text_at k))) ns n first.0 less.0) (ascends_push ns n first.1 less.1)

  new_among : (last t : Text) → compared last t ≡ Less → (ns : List ℕ) (n : ℕ) → list_all (λ m. not (is_lt (compared last (text_at m)))) ns ≡ true → text_at n ≡ t
      → number_among text_at (ns ++ n ∷ []) t ≡ Some n
  new_among last t after [] n all own = ap (λ b. cond b (Some n) None) (ap (is_text t) own ∙ same_text t)
  new_among last t after (m ∷ ns) n all own =
      let parts = and_parts (not (is_lt (compared last (text_at m)))) (list_all (λ k. not (is_lt (compared last (text_at k)))) ns) all in
      ap (λ b. cond b (Some m) (number_among text_at (ns ++ n ∷ []) t)) (apart (text_at m) t (earlier last t (text_at m) after parts.0))
      ∙ new_among last t after ns n parts.1 own

  -- a text that is not the last one stands behind it
  pub stands_more : (ns : List ℕ) (last next : Named) → Stands text_at ns last → is_lt (compared next.0.now last.0.now) ≡ false → is_text last.0.now next.0.now ≡ false
      → text_at next.1 ≡ next.0.now → Stands text_at (ns ++ next.1 ∷ []) next
  stands_more ns last next stands no_less other own =
      let after = behind last.0.now next.0.now no_less other in
      let before = are_before last.0.now next.0.now after ns stands.1 in (
        ascends_push ns next.1 stands.0 (ap (λ t. list_all (λ m. is_lt (compared (text_at m) t)) ns) own ∙ before),
        all_push (λ n. not (is_lt (compared next.0.now (text_at n)))) ns next.1 (no_later_all last.0.now next.0.now after ns stands.1)
            (ap (λ t. not (is_lt (compared next.0.now t))) own ∙ ap (λ r. not (is_lt r)) (same_order next.0.now)),
        new_among last.0.now next.0.now after ns next.1 stands.1 own,
      )

  pub stands_same : (ns : List ℕ) (last next : Named) → Stands text_at ns last → is_text last.0.now next.0.now ≡ true → next.1 ≡ last.1 → Stands text_at ns next
  stands_same ns last next stands same number =
      let is = (bytes_eq-Decides last.0.now next.0.now).0 same in (
        stands.0,
        subst (λ (t : Text). list_all (λ n. not (is_lt (compared t (text_at n)))) ns ≡ true) is stands.1,
        subst (λ (t : Text). number_among text_at ns t ≡ Some next.1) is (stands.2 ∙ ap Some (sym number)),
      )

  pub stands_first : (first : Named) → text_at first.1 ≡ first.0.now → Stands text_at (first.1 ∷ []) first
  stands_first first own = (
    refl,
    ap (λ t. not (is_lt (compared first.0.now t)) && true) own ∙ ap (λ r. not (is_lt r) && true) (same_order first.0.now),
    ap (λ b. cond b (Some first.1) None) (ap (is_text first.0.now) own ∙ same_text first.0.now),
  )

-- ---- what a sort leaves

pub ascend_sorted : (names : List Named) → IsSorted (λ x y. ordering_then (compared x.0.now y.0.now) (nat_cmp x.1 y.1)) names → Ascend names
ascend_sorted names sorted k d within =
    by (compared (get_or names (k + 1) d).0.now (get_or names k d).0.now) (nat_cmp (get_or names (k + 1) d).1 (get_or names k d).1) (sorted k d (omega arith) within)
  where
    by : (r s : Ordering) → is_lt (ordering_then r s) ≡ false → is_lt r ≡ false
    by Less s e = e
    by Equal s e = refl
    by Greater s e = refl

some_named : (names : List Named) (k : ℕ) → k < length names → Named
some_named [] k within = absurd (omega arith)
some_named (e ∷ names) k within = e

pub get_or_any : (xs : List Named) (k : ℕ) (d e : Named) → k < length xs → get_or xs k d ≡ get_or xs k e
get_or_any [] k d e within = absurd (omega arith)
get_or_any (x ∷ xs) zero d e within = refl
get_or_any (x ∷ xs) (suc k) d e within = get_or_any xs k d e (omega arith)

pub have_all : (n : ℕ) (names sorted : List Named) → n ≤ length names → ((k : ℕ) (d : Named) → k < n → (get_or names k d).1 ≡ k) → IsPermutation names sorted → HaveAll n sorted
have_all n names sorted count numbered permuted number within =
    let inside : number < length names = omega arith in
    let d = some_named names number inside in
    let e = get_or names number d in
    let there = Contains-permutation names sorted e permuted (number, inside, sym (get_or_any names number d e inside)) in (
      there.0,
      there.1,
      λ f. ap (λ x. x.1) (get_or_any sorted there.0 f e there.1 ∙ there.2) ∙ numbered number d within,
    )

-- ---- a number kept

-- what is kept of each node so far, and of one more
pub kept_next : (new : Text → Option ℕ) (text_at : ℕ → Text) (kept : List ℕ) (node number other : ℕ) → node < length kept
    → new (text_at node) ≡ Some number → (new (text_at other) ≡ Some (get_or kept other 0)) ⊎ (other ≡ node)
    → new (text_at other) ≡ Some (get_or (slice_set kept node number) other 0)
kept_next new text_at kept node number other within is was = by (other == node) refl was
  where
    own : other ≡ node → new (text_at other) ≡ Some (get_or (slice_set kept node number) other 0)
    own same = ap (λ n. new (text_at n)) same ∙ (is ∙ ap Some (sym (ap (λ n. get_or (slice_set kept node number) n 0) same ∙ get_or-set_same kept node number 0 within)))

    by : (b : Bool) → (other == node) ≡ b → (new (text_at other) ≡ Some (get_or kept other 0)) ⊎ (other ≡ node)
        → new (text_at other) ≡ Some (get_or (slice_set kept node number) other 0)
    by true e _ = own (eqb-true other node e)
    by false e (inr same) = own same
    by false e (inl before) =
        let apart : other ≢ node = λ same. let no : true ≡ false = sym (eq-eqb other node same) ∙ e in cc in
        before ∙ ap Some (sym (get_or-set_other kept node other number 0 apart))

-- ---- one text after another

pub no_less_at : (names : List Named) (k p : ℕ) (last : Text) (e : Named) → Ascend names → k < length names → p ≡ k - 1 → e ≡ get_or names k e
    → ((d : Named) → (get_or names p d).0.now ≡ last) → is_lt (compared e.0.now last) ≡ false
no_less_at names zero p last e up within before is so =
    let none : p ≡ 0 = omega (arith, before) in
    let same : e.0.now ≡ last = ap (λ x. x.0.now) is ∙ (ap (λ n. (get_or names n e).0.now) (sym none) ∙ so e) in
    ap (λ t. is_lt (compared t last)) same ∙ ap is_lt (same_order last)
no_less_at names (suc k) p last e up within before is so =
    let one : p ≡ k = omega (arith, before) in
    let next : k + 1 ≡ suc k = omega arith in
    ap₂ (λ a b. is_lt (compared a b)) (ap (λ x. x.0.now) is ∙ ap (λ n. (get_or names n e).0.now) (sym next))
    (sym (ap (λ n. (get_or names n e).0.now) (sym one) ∙ so e))
    ∙ up k e (omega (arith, within))

pub or_last : (j k : ℕ) → j < k + 1 → (j < k) ⊎ (j ≡ k)
or_last zero zero less = inr refl
or_last zero (suc k) less = inl (omega arith)
or_last (suc j) zero less = absurd (omega (arith, less))
or_last (suc j) (suc k) less = by (or_last j k (omega (arith, less)))
  where
    by : (j < k) ⊎ (j ≡ k) → (suc j < suc k) ⊎ (suc j ≡ suc k)
    by (inl before) = inl (omega (arith, before))
    by (inr same) = inr (ap suc same)

pub was_or_is : (new : Text → Option ℕ) (text_at : ℕ → Text) (sorted : List Named) (number k j : ℕ) (d e : Named) → j < k + 1 → get_or sorted k d ≡ e
    → (j < k → new (text_at (get_or sorted j d).1) ≡ Some number) → (new (text_at (get_or sorted j d).1) ≡ Some number) ⊎ ((get_or sorted j d).1 ≡ e.1)
was_or_is new text_at sorted number k j d e less is before = by (or_last j k less)
  where
    by : (j < k) ⊎ (j ≡ k) → (new (text_at (get_or sorted j d).1) ≡ Some number) ⊎ ((get_or sorted j d).1 ≡ e.1)
    by (inl fewer) = inl (before fewer)
    by (inr same) = inr (ap (λ n. (get_or sorted n d).1) same ∙ ap (λ x. x.1) is)

-- what is kept once all are through
pub all_kept : (names : Text → Option ℕ) (text_at : ℕ → Text) (sorted : List Named) (kept : List ℕ) (n at : ℕ) → HaveAll n sorted → length kept ≡ n → length sorted ≤ at
    → ((k : ℕ) (d : Named) → k < at → let node = (get_or sorted k d).1 in names (text_at node) ≡ Some (get_or kept node 0))
    → (node number : ℕ) → slice_get kept node ≡ Some number → names (text_at node) ≡ Some number
all_kept names text_at sorted kept n at whole count ended each node number e =
    let inside = slice_get_within kept node number e in
    let there = whole node (omega (arith, inside, count)) in
    let d = some_named sorted there.0 there.1 in
    subst (λ (m : ℕ). names (text_at m) ≡ Some (get_or kept m 0)) (there.2 d) (each there.0 d (omega (arith, there.1, ended)))
    ∙ ap Some (get_or_from_slice_get kept node number 0 e)

pub not_none : (n : ℕ) → (n == 0) ≡ false → 0 < n
not_none zero e = absurd cc
not_none (suc n) e = omega arith

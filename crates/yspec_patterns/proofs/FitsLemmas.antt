-- The test of a pattern tells its texts.
use Rattle.std.specs.Prelude.{◌≡◌, ℕ, zero, suc, ◌≤◌, Bool, true, false, ◌||◌, ◌⊎◌, List, [], ◌∷◌, ◌++◌, Option, Some, None, if◌then◌else◌, nat_le, refl}
use Rattle.std.proofs.Common.{sym, ◌∙◌, ap, subst, arith, inl, inr, ⊎_elim, true≢false, le-leb}
use Rattle.std.proofs.lemmas.Bool.{and_parts, and_from}
use Rattle.std.proofs.lemmas.Bool.Decides.{nat_tests}
use Rattle.yspec_patterns.specs.Sets.{Set}
use Rattle.yspec_patterns.specs.Pattern.{Pattern, nothing, nil, one, both, either, repeat, Times, IsAtMost, Fits, repeats_nil, takes_nil, after, accepts}

-- ---- lists

abbrev first_of : List ℕ → ℕ
first_of [] = 0
first_of (x ∷ xs) = x

abbrev rest_of : List ℕ → List ℕ
rest_of [] = []
rest_of (x ∷ xs) = xs

abbrev is_nil : List ℕ → Bool
is_nil [] = true
is_nil (x ∷ xs) = false

no_cons : {A : Type 0} (x : ℕ) (xs : List ℕ) → x ∷ xs ≡ [] → A
no_cons x xs e = absurd (true≢false (sym (ap is_nil e)))

both_nil : (u v : List ℕ) → [] ≡ u ++ v → (u ≡ []) × (v ≡ [])
both_nil [] v e = (refl, sym e)
both_nil (x ∷ u) v e = no_cons x (u ++ v) (sym e)

or_cases : (a b : Bool) → (a || b) ≡ true → (a ≡ true) ⊎ (b ≡ true)
or_cases true b h = inl refl
or_cases false b h = inr h

or_left : (a b : Bool) → a ≡ true → (a || b) ≡ true
or_left true b h = refl
or_left false b h = absurd (true≢false (sym h))

or_right : (a b : Bool) → b ≡ true → (a || b) ≡ true
or_right true b h = refl
or_right false b h = h

-- ---- the empty text

times_nil : (R : List ℕ → Type 0) (k : ℕ) → R [] → Times R k []
times_nil R zero r = refl
times_nil R (suc k) r = ([], [], refl, r, times_nil R k r)

times_first : (R : List ℕ → Type 0) (k : ℕ) → Times R (suc k) [] → R []
times_first R k m = subst R (both_nil m.0 m.1 m.2).0 m.3

at_most_zero : (most : Option ℕ) → IsAtMost 0 most
at_most_zero None = tt
at_most_zero (Some n) = omega arith

repeat_nil : (R : List ℕ → Type 0) (least : ℕ) (most : Option ℕ) (inner : Bool) → (inner ≡ true → R []) →
    repeats_nil least most inner ≡ true → (k : ℕ) × (least ≤ k) × IsAtMost k most × Times R k []
repeat_nil R zero most inner r h = (0, omega arith, at_most_zero most, refl)
repeat_nil R (suc least) None inner r h = (suc least, omega arith, tt, times_nil R (suc least) (r h))
repeat_nil R (suc least) (Some most) inner r h =
    let p = and_parts (nat_le (suc least) most) inner h in
    (suc least, omega arith, grind (arith, nat_tests, p.0), times_nil R (suc least) (r p.1))

nil_of_takes_nil : (p : Pattern) → takes_nil p ≡ true → Fits p []
nil_of_takes_nil nothing h = true≢false (sym h)
nil_of_takes_nil nil h = refl
nil_of_takes_nil (one set) h = absurd (true≢false (sym h))
nil_of_takes_nil (both p q) h =
    let parts = and_parts (takes_nil p) (takes_nil q) h in
    ([], [], refl, nil_of_takes_nil p parts.0, nil_of_takes_nil q parts.1)
nil_of_takes_nil (either p q) h =
    ⊎_elim (λ a. inl (nil_of_takes_nil p a)) (λ b. inr (nil_of_takes_nil q b)) (or_cases (takes_nil p) (takes_nil q) h)
nil_of_takes_nil (repeat least most p) h = repeat_nil (Fits p) least most (takes_nil p) (nil_of_takes_nil p) h

repeats_nil_of : (R : List ℕ → Type 0) (least : ℕ) (most : Option ℕ) (inner : Bool) → (R [] → inner ≡ true) →
    (k : ℕ) → least ≤ k → IsAtMost k most → Times R k [] → repeats_nil least most inner ≡ true
repeats_nil_of R zero most inner r k low high m = refl
repeats_nil_of R (suc least) most inner r zero low high m = absurd (omega arith)
repeats_nil_of R (suc least) None inner r (suc k) low high m = r (times_first R k m)
repeats_nil_of R (suc least) (Some most) inner r (suc k) low high m =
    and_from (nat_le (suc least) most) inner (le-leb (suc least) most (omega arith)) (r (times_first R k m))

takes_nil_of_nil : (p : Pattern) → Fits p [] → takes_nil p ≡ true
takes_nil_of_nil nothing m = absurd m
takes_nil_of_nil nil m = refl
takes_nil_of_nil (one set) m = no_cons m.0 [] (sym m.1)
takes_nil_of_nil (both p q) m =
    let e = both_nil m.0 m.1 m.2 in
    and_from (takes_nil p) (takes_nil q) (takes_nil_of_nil p (subst (Fits p) e.0 m.3)) (takes_nil_of_nil q (subst (Fits q) e.1 m.4))
takes_nil_of_nil (either p q) m = ⊎_elim
    (λ a. or_left (takes_nil p) (takes_nil q) (takes_nil_of_nil p a))
    (λ b. or_right (takes_nil p) (takes_nil q) (takes_nil_of_nil q b)) m
takes_nil_of_nil (repeat least most p) m =
    repeats_nil_of (Fits p) least most (takes_nil p) (takes_nil_of_nil p) m.0 m.1 m.2 m.3

-- ---- a character and the text behind it

-- a part that isn't empty comes first, for parts that are empty may come last
part_with : (R : List ℕ → Type 0) (k : ℕ) (c : ℕ) (t : List ℕ) → Times R (suc k) (c ∷ t) →
    (u : List ℕ) × (v : List ℕ) × (t ≡ u ++ v) × R (c ∷ u) × Times R k v
part_with R k c t m = part_by R k c t m.0 m.1 m.2 m.3 m.4
  where
    part_by : (R : List ℕ → Type 0) (k : ℕ) (c : ℕ) (t u v : List ℕ) → c ∷ t ≡ u ++ v → R u → Times R k v →
        (x : List ℕ) × (y : List ℕ) × (t ≡ x ++ y) × R (c ∷ x) × Times R k y
    part_by R zero c t [] v e r later = no_cons c t (e ∙ later)
    part_by R (suc k) c t [] v e r later =
        let m = subst (Times R (suc k)) (sym e) later in
        let inner = part_by R k c t m.0 m.1 m.2 m.3 m.4 in
        (inner.0, inner.1, inner.2, inner.3, ([], inner.1, refl, r, inner.4))
    part_by R k c t (d ∷ u) v e r later =
        (u, v, ap rest_of e, subst (λ x. R (x ∷ u)) (sym (ap first_of e)) r, later)

one_before : (b : Bool) (set : Set) (c : ℕ) (t : List ℕ) → set c ≡ b →
    Fits (if b then nil else nothing) t → Fits (one set) (c ∷ t)
one_before true set c t e m = (c, ap (λ x. c ∷ x) m, e)
one_before false set c t e m = absurd m

one_behind : (b : Bool) (set : Set) (c : ℕ) (t : List ℕ) → set c ≡ b →
    Fits (one set) (c ∷ t) → Fits (if b then nil else nothing) t
one_behind true set c t e m = ap rest_of m.1
one_behind false set c t e m = true≢false (sym (sym e ∙ ap set (ap first_of m.1) ∙ m.2))

both_before : (b : Bool) (p q : Pattern) (c : ℕ) (t : List ℕ) → takes_nil p ≡ b →
    ((u : List ℕ) → Fits (after c p) u → Fits p (c ∷ u)) → ((u : List ℕ) → Fits (after c q) u → Fits q (c ∷ u)) →
    Fits (if b then either (both (after c p) q) (after c q) else both (after c p) q) t → Fits (both p q) (c ∷ t)
both_before true p q c t e first second m = ⊎_elim
    (λ a. (c ∷ a.0, a.1, ap (λ x. c ∷ x) a.2, first a.0 a.3, a.4))
    (λ b. ([], c ∷ t, refl, nil_of_takes_nil p e, second t b)) m
both_before false p q c t e first second m = (c ∷ m.0, m.1, ap (λ x. c ∷ x) m.2, first m.0 m.3, m.4)

both_behind : (b : Bool) (p q : Pattern) (c : ℕ) (t : List ℕ) → takes_nil p ≡ b →
    ((u : List ℕ) → Fits p (c ∷ u) → Fits (after c p) u) → ((u : List ℕ) → Fits q (c ∷ u) → Fits (after c q) u) →
    (u v : List ℕ) → c ∷ t ≡ u ++ v → Fits p u → Fits q v →
    Fits (if b then either (both (after c p) q) (after c q) else both (after c p) q) t
both_behind true p q c t e first second [] v is mp mq = inr (second t (subst (Fits q) (sym is) mq))
both_behind false p q c t e first second [] v is mp mq = absurd (true≢false (sym (takes_nil_of_nil p mp) ∙ e))
both_behind true p q c t e first second (d ∷ u) v is mp mq =
    inl (u, v, ap rest_of is, first u (subst (λ x. Fits p (x ∷ u)) (sym (ap first_of is)) mp), mq)
both_behind false p q c t e first second (d ∷ u) v is mp mq =
    (u, v, ap rest_of is, first u (subst (λ x. Fits p (x ∷ u)) (sym (ap first_of is)) mp), mq)

fits_before : (c : ℕ) (p : Pattern) (t : List ℕ) → Fits (after c p) t → Fits p (c ∷ t)
fits_before c nothing t m = m
fits_before c nil t m = absurd m
fits_before c (one set) t m = one_before (set c) set c t refl m
fits_before c (both p q) t m = both_before (takes_nil p) p q c t refl (fits_before c p) (fits_before c q) m
fits_before c (either p q) t m = ⊎_elim (λ a. inl (fits_before c p t a)) (λ b. inr (fits_before c q t b)) m
fits_before c (repeat least None p) t (u, v, e, mp, (k, low, high, times)) =
    (suc k, omega arith, tt, (c ∷ u, v, ap (λ x. c ∷ x) e, fits_before c p u mp, times))
fits_before c (repeat least (Some zero) p) t m = absurd m
fits_before c (repeat least (Some (suc most)) p) t (u, v, e, mp, (k, low, high, times)) =
    (suc k, omega arith, omega arith, (c ∷ u, v, ap (λ x. c ∷ x) e, fits_before c p u mp, times))

repeat_behind : (c : ℕ) (R S : List ℕ → Type 0) → ((u : List ℕ) → R (c ∷ u) → S u) → (k : ℕ) (t : List ℕ) → Times R (suc k) (c ∷ t) →
    (u : List ℕ) × (v : List ℕ) × (t ≡ u ++ v) × S u × Times R k v
repeat_behind c R S step k t m =
    let x = part_with R k c t m in
    (x.0, x.1, x.2, step x.0 x.3, x.4)

fits_behind : (c : ℕ) (p : Pattern) (t : List ℕ) → Fits p (c ∷ t) → Fits (after c p) t
fits_behind c nothing t m = m
fits_behind c nil t m = no_cons c t m
fits_behind c (one set) t m = one_behind (set c) set c t refl m
fits_behind c (both p q) t m = both_behind (takes_nil p) p q c t refl (fits_behind c p) (fits_behind c q) m.0 m.1 m.2 m.3 m.4
fits_behind c (either p q) t m = ⊎_elim (λ a. inl (fits_behind c p t a)) (λ b. inr (fits_behind c q t b)) m
fits_behind c (repeat least None p) t (zero, low, high, times) = no_cons c t times
fits_behind c (repeat least None p) t (suc k, low, high, times) =
    let x = repeat_behind c (Fits p) (Fits (after c p)) (fits_behind c p) k t times in
    (x.0, x.1, x.2, x.3, (k, omega arith, tt, x.4))
fits_behind c (repeat least (Some zero) p) t (zero, low, high, times) = no_cons c t times
fits_behind c (repeat least (Some zero) p) t (suc k, low, high, times) = omega arith
fits_behind c (repeat least (Some (suc most)) p) t (zero, low, high, times) = no_cons c t times
fits_behind c (repeat least (Some (suc most)) p) t (suc k, low, high, times) =
    let x = repeat_behind c (Fits p) (Fits (after c p)) (fits_behind c p) k t times in
    (x.0, x.1, x.2, x.3, (k, omega arith, omega arith, x.4))

-- ---- all

pub fits_of_accepts : (p : Pattern) (t : List ℕ) → accepts p t ≡ true → Fits p t
fits_of_accepts p [] h = nil_of_takes_nil p h
fits_of_accepts p (c ∷ t) h = fits_before c p t (fits_of_accepts (after c p) t h)

pub accepts_of_fits : (p : Pattern) (t : List ℕ) → Fits p t → accepts p t ≡ true
accepts_of_fits p [] m = takes_nil_of_nil p m
accepts_of_fits p (c ∷ t) m = accepts_of_fits (after c p) t (fits_behind c p t m)

-- What holds of a forest once a row is put below one of its nodes.
use Rattle.std.proofs.Common.{◌≡◌, ◌⊎◌, inl, inr, ℕ, zero, suc, ◌+◌, ◌==◌, ◌≤◌, ◌<◌, Bool, true, false, cond, Some, refl, sym, ap, ap₂, subst, ◌∙◌, arith}
use Rattle.std.proofs.lemmas.Bool.{cases_eq, cases_lt, eq-eqb, eqb-true, ne_eqb}
use Rattle.yspec.specs.Forest.{Forest, end, node, join, size, first_of}
use Rattle.yspec.specs.linking.Source.{Source}
use Rattle.yspec.specs.linking.Parts.{Part}
use Rattle.yschema_augment.specs.Hanging.{Hung, put, times, plain, numbered, inner, marked_by}
use Rattle.yschema_expand.specs.NumberedView.{Numbered}
use Rattle.yschema_augment.specs.Searching.{Lookup, first_in, Agrees, AgreesAll, looked_behind}
use Rattle.yschema_augment.proofs.HangingLemmas.{Nodes}
use Rattle.yschema_augment.proofs.PathLemmas.{put_absent}
use Rattle.yschema_augment.proofs.SearchLemmas.{first_put, first_join, behind_other, behind_top, behind_target, agrees_other}

abbrev Parts : Type 0
Parts = Nodes Part

abbrev one_if : Bool → ℕ
one_if b = cond b 1 0

pub times_join : (n : ℕ) (f g : Parts) → times n (join f g) ≡ times n f + times n g
times_join n end g = omega arith
times_join n (node l below after) g = omega (arith, times_join n after g)

-- ---- agreement

agrees_join : (look : Lookup) (source : ℕ → Source) (f g : Parts) → Agrees look source f → Agrees look source g → Agrees look source (join f g)
agrees_join look source end g first second = second
agrees_join look source (node l below after) g first second = (first.0, first.1, agrees_join look source after g first.2 second)

-- the row that is put below the node of a statement
abbrev pub IsRow : (ℕ → Source) → Hung Part → Parts → Type 0
IsRow source h added = (l : Numbered Part) → l.label.source ≡ source h.target → h.row l ≡ added

pub agrees_put : (look : Lookup) (source : ℕ → Source) (h : Hung Part) (added : Parts) → IsRow source h added → times h.target added ≡ 0
    → Agrees look source added → (f : Parts) → Agrees look source f → Agrees (looked_behind look h.target added) source (put h f)
agrees_put look source h added is none inside end agrees = tt
agrees_put look source h added is none inside (node l below after) agrees =
    by (h.target == l.number) refl (agrees_put look source h added is none inside below agrees.1) (agrees_put look source h added is none inside after agrees.2)
  where
    now : Lookup
    now = looked_behind look h.target added

    by : (b : Bool) → (h.target == l.number) ≡ b → Agrees now source (put h below) → Agrees now source (put h after)
        → Agrees now source (node l (cond b (join (put h below) (h.row l)) (put h below)) (put h after))
    by true e under later =
        let same : h.target ≡ l.number = eqb-true h.target l.number e in
        let row_is : h.row l ≡ added = is l (agrees.0.0 ∙ ap source (sym same)) in (
          (
            agrees.0.0,
            λ name. subst (λ n. now (Some n) name ≡ first_of (look (Some n) name) (first_in name added)) same (behind_target look h.target added name)
                ∙ (ap₂ first_of (agrees.0.1 name ∙ sym (first_put h name below)) (ap (first_in name) (sym row_is)) ∙ sym (first_join name (put h below) (h.row l))),
          ),
          agrees_join now source (put h below) (h.row l) under (subst (Agrees now source) (sym row_is) (agrees_other look source h.target added added none inside)),
          later,
        )
    by false e under later = (
      (
        agrees.0.0,
        λ name. behind_other look h.target l.number added name (λ same. absurd (false_true (sym e ∙ eq-eqb h.target l.number (sym same))))
            ∙ (agrees.0.1 name ∙ sym (first_put h name below)),
      ),
      under,
      later,
    )
      where
        false_true : false ≡ true → ⊥
        false_true d = cc

pub agrees_all_put : (look : Lookup) (source : ℕ → Source) (h : Hung Part) (added : Parts) → IsRow source h added → times h.target added ≡ 0
    → Agrees look source added → (f : Parts) → AgreesAll look source f → AgreesAll (looked_behind look h.target added) source (put h f)
agrees_all_put look source h added is none inside f agrees = (
  λ name. behind_top look h.target added name ∙ (agrees.0 name ∙ sym (first_put h name f)),
  agrees_put look source h added is none inside f agrees.1,
)

-- ---- how often numbers stand there

pub times_put : (look : Lookup) (source : ℕ → Source) (h : Hung Part) (added : Parts) → IsRow source h added → (n : ℕ) (f : Parts) → Agrees look source f
    → times h.target f ≡ 1 → times n (put h f) ≡ times n f + times n added
times_put look source h added is n end agrees once = absurd (omega (arith, once))
times_put look source h added is n (node l below after) agrees once =
    by (h.target == l.number) refl (times h.target below) refl (times_put look source h added is n below agrees.1) (times_put look source h added is n after agrees.2)
  where
    here : (b : Bool) → (h.target == l.number) ≡ b → ℕ
    here b e = one_if (l.number == h.target)

    by : (b : Bool) → (h.target == l.number) ≡ b → (k : ℕ) → times h.target below ≡ k
        → (times h.target below ≡ 1 → times n (put h below) ≡ times n below + times n added)
        → (times h.target after ≡ 1 → times n (put h after) ≡ times n after + times n added)
        → one_if (l.number == n) + (times n (cond b (join (put h below) (h.row l)) (put h below)) + times n (put h after))
        ≡ (one_if (l.number == n) + (times n below + times n after)) + times n added
    by true e k count under later =
        let same : h.target ≡ l.number = eqb-true h.target l.number e in
        let first : one_if (l.number == h.target) ≡ 1 = ap one_if (eq-eqb l.number h.target (sym same)) in
        let low = ap (times n) (put_absent h below (omega (arith, once, first))) in
        let high = ap (times n) (put_absent h after (omega (arith, once, first))) in
        let row_is = ap (times n) (is l (agrees.0.0 ∙ ap source (sym same))) in
        omega (arith, low, high, row_is, times_join n (put h below) (h.row l))
    by false e zero count under later =
        let first : one_if (l.number == h.target) ≡ 0 = ap one_if (ne_eqb l.number h.target (λ same. absurd (false_true (sym e ∙ eq-eqb h.target l.number (sym same))))) in
        let low = ap (times n) (put_absent h below count) in
        omega (arith, low, later (omega (arith, once, first, count)))
      where
        false_true : false ≡ true → ⊥
        false_true d = cc
    by false e (suc k) count under later =
        let high = ap (times n) (put_absent h after (omega (arith, once, count))) in
        omega (arith, high, under (omega (arith, once, count)))

-- ---- numbers in preorder

pub times_before : (n next : ℕ) (f : Forest Part) → n < next → times n (numbered next f) ≡ 0
times_before n next end less = refl
times_before n next (node p below after) less =
    let here = ap one_if (ne_eqb next n (λ e. absurd (omega (arith, less, e)))) in
    omega (arith, here, times_before n (next + 1) below (omega (arith, less)), times_before n (next + suc (size below)) after (omega (arith, less)))

pub times_behind : (n next : ℕ) (f : Forest Part) → next + size f ≤ n → times n (numbered next f) ≡ 0
times_behind n next end more = refl
times_behind n next (node p below after) more =
    let here = ap one_if (ne_eqb next n (λ e. absurd (omega (arith, more, e)))) in
    omega (arith, here, times_behind n (next + 1) below (omega (arith, more)), times_behind n (next + suc (size below)) after (omega (arith, more)))

pub times_numbered : (n next : ℕ) (f : Forest Part) → times n (numbered next f) ≤ 1
times_numbered n next end = omega arith
times_numbered n next (node p below after) = by (cases_lt n (next + suc (size below))) (cases_eq next n)
    (times_numbered n (next + 1) below) (times_numbered n (next + suc (size below)) after)
  where
    by : ((n < next + suc (size below)) ⊎ (next + suc (size below) ≤ n)) → ((next ≡ n) ⊎ (next ≡ n → ⊥))
        → times n (numbered (next + 1) below) ≤ 1 → times n (numbered (next + suc (size below)) after) ≤ 1
        → one_if (next == n) + (times n (numbered (next + 1) below) + times n (numbered (next + suc (size below)) after)) ≤ 1
    by (inl less) (inl same) under later = omega (
      arith,
      ap one_if (eq-eqb next n same),
      times_before n (next + 1) below (omega (arith, same)),
      times_before n (next + suc (size below)) after less,
    )
    by (inl less) (inr other) under later = omega (arith, ap one_if (ne_eqb next n other), under, times_before n (next + suc (size below)) after less)
    by (inr more) (inl same) under later = absurd (omega (arith, more, same))
    by (inr more) (inr other) under later = omega (arith, ap one_if (ne_eqb next n other), later, times_behind n (next + 1) below (omega (arith, more)))

pub plain_numbered : (next : ℕ) (f : Forest Part) → plain (numbered next f) ≡ f
plain_numbered next end = refl
plain_numbered next (node p below after) = ap₂ (node p) (plain_numbered (next + 1) below) (plain_numbered (next + suc (size below)) after)

pub times_inner : (n : ℕ) (f : Parts) → times n (inner f) ≤ times n f
times_inner n end = omega arith
times_inner n (node l below after) = omega (arith, times_inner n after, times_join n below (inner after))

pub times_marked : (n augment : ℕ) (f : Parts) → times n (marked_by augment f) ≡ times n f
times_marked n augment end = refl
times_marked n augment (node l below after) = ap (λ k. one_if (l.number == n) + (times n below + k)) (times_marked n augment after)

pub agrees_inner : (look : Lookup) (source : ℕ → Source) (f : Parts) → Agrees look source f → Agrees look source (inner f)
agrees_inner look source end agrees = tt
agrees_inner look source (node l below after) agrees = agrees_join look source below (inner after) agrees.1 (agrees_inner look source after agrees.2)

pub agrees_marked : (look : Lookup) (source : ℕ → Source) (augment : ℕ) (f : Parts) → Agrees look source f → Agrees look source (marked_by augment f)
agrees_marked look source augment end agrees = tt
agrees_marked look source augment (node l below after) agrees = (agrees.0, agrees.1, agrees_marked look source augment after agrees.2)

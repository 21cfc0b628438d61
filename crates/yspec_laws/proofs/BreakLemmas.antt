-- The least of a list of breaks is one of them, and none of them comes before it.
use Rattle.std.proofs.Common.{◌≡◌, Decides, ℕ, zero, suc, ◌≤◌, ◌<◌, Bool, true, false, cond, List, [], ◌∷◌, Some, None, ◌⊎◌, inl, inr, refl, sym, ap, subst, ◌∙◌, arith}
use Rattle.std.specs.Prelude.{◌↔◌, ◌==◌, nat_lt}
use Rattle.std.specs.List.{All, Contains}
use Rattle.std.proofs.lemmas.Bool.{cases_lt, false≢true}
use Rattle.std.proofs.lemmas.Bool.Decides.{Decides-eqb, Decides-ltb, Decides-or, Decides-and}
use Rattle.std.proofs.lemmas.Option.{same_Some}
use Rattle.std.proofs.lemmas.List.Elements.{All-cons, All-nil, All-head, All-tail}
use Rattle.yspec.specs.schema.Breaks.{Break, first_broken, is_before, least_from, lesser, or_told}
use Rattle.yspec.proofs.LinkingProofs.BreakLemmas.{none_told}
use Rattle.yspec_laws.specs.Told.{IsFirstAndLeast}
use Rattle.yspec_laws.proofs.ListLemmas.{first_of, later_of}

-- ---- the order

-- what it means that one doesn't come after another, in numbers
record IsUpTo (a b : Break) : Type 0 where
  modules : a.module_number ≤ b.module_number
  lines : a.module_number ≡ b.module_number → a.line ≤ b.line
  codes : a.module_number ≡ b.module_number → a.line ≡ b.line → a.code ≤ b.code

up_to_itself : (a : Break) → IsUpTo a a
up_to_itself a = record { modules = omega arith; lines = λ m. omega arith; codes = λ m l. omega arith }

up_to_one_more : (a b c : Break) → IsUpTo a b → IsUpTo b c → IsUpTo a c
up_to_one_more a b c here there =
    let m = here.modules in
    let n = there.modules in
    let same_first : a.module_number ≡ c.module_number → a.module_number ≡ b.module_number = λ e. omega (arith, m, n, e) in
    let same_second : a.module_number ≡ c.module_number → b.module_number ≡ c.module_number = λ e. omega (arith, m, n, e) in
    record {
      modules = omega (arith, m, n);
      lines = λ e. let k = here.lines (same_first e) in let l = there.lines (same_second e) in omega (arith, k, l);
      codes = λ e f.
          let k = here.lines (same_first e) in
          let l = there.lines (same_second e) in
          let one = here.codes (same_first e) (omega (arith, k, l, f)) in
          let two = there.codes (same_second e) (omega (arith, k, l, f)) in
          omega (arith, one, two);
    }

-- that one comes before another, in numbers
abbrev IsBefore : Break → Break → Type 0
IsBefore a b = (a.module_number < b.module_number)
    ⊎ ((a.module_number ≡ b.module_number) × ((a.line < b.line) ⊎ ((a.line ≡ b.line) × (a.code < b.code))))

decides : (a b : Break) → Decides (is_before a b) (IsBefore a b)
decides a b = Decides-or (nat_lt a.module_number b.module_number) _ (Decides-ltb a.module_number b.module_number)
    (Decides-and (a.module_number == b.module_number) _ (Decides-eqb a.module_number b.module_number)
    (Decides-or (nat_lt a.line b.line) _ (Decides-ltb a.line b.line)
    (Decides-and (a.line == b.line) _ (Decides-eqb a.line b.line) (Decides-ltb a.code b.code))))

not_before : (a b : Break) → IsUpTo a b → is_before b a ≡ false
not_before a b up = by (is_before b a) refl
  where
    clash : IsBefore b a → ⊥
    clash (inl less) = let m = up.modules in omega (arith, m, less)
    clash (inr (same, inl less)) = let l = up.lines (sym same) in omega (arith, l, less)
    clash (inr (same, inr (line, less))) = let c = up.codes (sym same) (sym line) in omega (arith, c, less)

    by : (r : Bool) → is_before b a ≡ r → r ≡ false
    by false e = refl
    by true e = absurd (clash ((decides b a).0 e))

up_to_from : (a b : Break) → is_before b a ≡ false → IsUpTo a b
up_to_from a b e = record {
  modules = by_cases (b.module_number) (a.module_number) (λ less. none (inl less));
  lines = λ m. by_cases (b.line) (a.line) (λ less. none (inr (sym m, inl less)));
  codes = λ m l. by_cases (b.code) (a.code) (λ less. none (inr (sym m, inr (sym l, less))));
}
  where
    none : IsBefore b a → ⊥
    none before = false≢true (sym e ∙ (decides b a).1 before)

    by_cases : (x y : ℕ) → (x < y → ⊥) → y ≤ x
    by_cases x y never = elim (cases_lt x y) [
      | inl less ↦ absurd (never less)
      | inr more ↦ more
    ]

up_to : (a b c : Break) → is_before b a ≡ false → is_before c b ≡ false → is_before c a ≡ false
up_to a b c here there = not_before a c (up_to_one_more a b c (up_to_from a b here) (up_to_from b c there))

-- ---- the lesser of two

-- neither comes before it
lesser_first : (a b : Break) → is_before a (lesser (Some a) b) ≡ false
lesser_first a b = by (is_before b a) refl
  where
    by : (r : Bool) → is_before b a ≡ r → is_before a (cond r b a) ≡ false
    by true e = not_before b a (before_up_to ((decides b a).0 e))
      where
        before_up_to : IsBefore b a → IsUpTo b a
        before_up_to (inl less) = record { modules = omega (arith, less); lines = λ m. absurd (omega (arith, less, m)); codes = λ m l. absurd (omega (arith, less, m)) }
        before_up_to (inr (same, inl less)) = record { modules = omega (arith, same); lines = λ m. omega (arith, less); codes = λ m l. absurd (omega (arith, less, l)) }
        before_up_to (inr (same, inr (line, less))) = record { modules = omega (arith, same); lines = λ m. omega (arith, line); codes = λ m l. omega (arith, less) }
    by false e = not_before a a (up_to_itself a)

lesser_second : (a b : Break) → is_before b (lesser (Some a) b) ≡ false
lesser_second a b = by (is_before b a) refl
  where
    by : (r : Bool) → is_before b a ≡ r → is_before b (cond r b a) ≡ false
    by true e = not_before b b (up_to_itself b)
    by false e = e

one_of_two : (a b told : Break) → lesser (Some a) b ≡ told → (a ≡ told) ⊎ (b ≡ told)
one_of_two a b told = by (is_before b a)
  where
    by : (r : Bool) → cond r b a ≡ told → (a ≡ told) ⊎ (b ≡ told)
    by true e = inr e
    by false e = inl e

-- ---- the least of a list

least_up_to : (bs : List Break) (a told : Break) → least_from (Some a) bs ≡ Some told
    → (is_before a told ≡ false) × All (λ b. is_before b told ≡ false) bs
least_up_to [] a told e = (
  subst (λ t. is_before a t ≡ false) (same_Some a told e) (not_before a a (up_to_itself a)),
  All-nil (λ b. is_before b told ≡ false),
)
least_up_to (b ∷ bs) a told e =
    let lower = lesser (Some a) b in
    let rest = least_up_to bs lower told e in (
      up_to told lower a rest.0 (lesser_first a b),
      All-cons (λ c. is_before c told ≡ false) b bs (up_to told lower b rest.0 (lesser_second a b)) rest.1,
    )

one_from : (bs : List Break) (a told : Break) → least_from (Some a) bs ≡ Some told → Contains (a ∷ bs) told
one_from [] a told e = first_of told a [] (same_Some a told e)
one_from (b ∷ bs) a told e = by (one_from bs (lesser (Some a) b) told e)
  where
    of_two : (a ≡ told) ⊎ (b ≡ told) → Contains (a ∷ b ∷ bs) told
    of_two (inl is) = first_of told a (b ∷ bs) is
    of_two (inr is) = later_of told a (b ∷ bs) (first_of told b bs is)

    by : Contains (lesser (Some a) b ∷ bs) told → Contains (a ∷ b ∷ bs) told
    by (zero, within, is) = of_two (one_of_two a b told is)
    by (suc k, within, is) = later_of told a (b ∷ bs) (later_of told b bs (k, omega (arith, within), is))

-- ---- phases

pub none_broken : (phases : List (List Break)) → (first_broken phases ≡ None) ↔ All (λ phase. phase ≡ []) phases
none_broken phases = (all phases, none phases)
  where
    all : (phases : List (List Break)) → first_broken phases ≡ None → All (λ phase. phase ≡ []) phases
    all [] e = All-nil (λ phase. phase ≡ [])
    all (phase ∷ phases) e =
        let parts = none_told phase (first_broken phases) e in
        All-cons (λ phase. phase ≡ []) phase phases parts.0 (all phases parts.1)

    none : (phases : List (List Break)) → All (λ phase. phase ≡ []) phases → first_broken phases ≡ None
    none [] empty = refl
    none (phase ∷ phases) empty = ap (λ p. or_told p (first_broken phases)) (All-head (λ earlier. earlier ≡ []) phase phases empty)
        ∙ none phases (All-tail (λ earlier. earlier ≡ []) phase phases empty)

pub first_and_least : (phases : List (List Break)) (told : Break) → first_broken phases ≡ Some told → IsFirstAndLeast phases told
first_and_least [] told e = absurd cc
first_and_least ([] ∷ phases) told e =
    let rest = first_and_least phases told e in record {
      before = [] ∷ rest.before;
      phase = rest.phase;
      after = rest.after;
      parts = ap (λ ps. [] ∷ ps) rest.parts;
      none_before = All-cons (λ earlier. earlier ≡ []) [] rest.before refl rest.none_before;
      among = rest.among;
      least = rest.least;
    }
first_and_least ((b ∷ bs) ∷ phases) told e =
    let all = least_up_to bs b told e in record {
      before = [];
      phase = b ∷ bs;
      after = phases;
      parts = refl;
      none_before = All-nil (λ earlier. earlier ≡ []);
      among = one_from bs b told e;
      least = All-cons (λ c. is_before c told ≡ false) b bs all.0 all.1;
    }

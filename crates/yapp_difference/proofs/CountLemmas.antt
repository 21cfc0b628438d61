-- Faults without so many of each key.
use Rattle.std.proofs.Common.{◌≡◌, ℕ, ◌+◌, ◌-◌, ◌<◌, ◌≤◌, Bool, true, false, List, [], ◌∷◌, Option, Some, None, refl, sym, ap, subst, ◌∙◌, arith}
use Rattle.std.specs.Prelude.{if◌then◌else◌, nat_lt, option_map, ◌||◌, ◌&&◌, IfOk, Result, Ok, Err}
use Rattle.std.specs.Option.{option_map_or}
use Rattle.std.specs.List.{list_any}
use Rattle.std.proofs.Math.Path.{fun_ext}
use Rattle.std.proofs.lemmas.Bool.{ltb-true, ltb-false}
use Rattle.yspec.specs.document.Fault.{Fault}
use Rattle.yspec_session.specs.Carrying.{Turn, Difference, same_fault, without_one, with_gone, fault_behind, difference}
use Rattle.yapp_difference.specs.Keys.{Key, key_of, same_key}
use Rattle.yapp_difference.specs.Counting.{among, with_one_more, with_one_less, without, with_gone_unless}
use Rattle.yapp_difference.proofs.KeyLemmas.{keys_are, reversed}

-- ---- tests of numbers

pub is_less : (m n : ℕ) → m < n → nat_lt m n ≡ true
is_less m n less = by (nat_lt m n) refl
  where
    by : (b : Bool) → nat_lt m n ≡ b → b ≡ true
    by true e = refl
    by false e = absurd (omega (arith, ltb-false m n e, less))

same_tests : (m n k l : ℕ) → (m < n → k < l) → (k < l → m < n) → nat_lt m n ≡ nat_lt k l
same_tests m n k l there back = by (nat_lt m n) refl
  where
    not_less : (b : Bool) → nat_lt k l ≡ b → nat_lt m n ≡ false → false ≡ b
    not_less true e f = absurd (omega (arith, ltb-false m n f, back (ltb-true k l e)))
    not_less false e f = refl

    by : (b : Bool) → nat_lt m n ≡ b → nat_lt m n ≡ nat_lt k l
    by true e = e ∙ sym (is_less k l (there (ltb-true m n e)))
    by false e = e ∙ not_less (nat_lt k l) refl e

-- ---- counts

more_at : (key k : Key) (c : Key → ℕ) → same_key key k ≡ true → with_one_more key c k ≡ c k + 1
more_at key k c same = ap (λ b. if b then c k + 1 else c k) same

more_elsewhere : (key k : Key) (c : Key → ℕ) → same_key key k ≡ false → with_one_more key c k ≡ c k
more_elsewhere key k c other = ap (λ b. if b then c k + 1 else c k) other

at_least : (key k : Key) (c : Key → ℕ) → c k ≤ with_one_more key c k
at_least key k c = by (same_key key k)
  where
    by : (b : Bool) → c k ≤ (if b then c k + 1 else c k)
    by true = omega (arith)
    by false = omega (arith)

-- one less and one more, at a key that has one
less_more : (key other : Key) (c : Key → ℕ) → 0 < c key → with_one_more other (with_one_less key c) ≡ with_one_less key (with_one_more other c)
less_more key other c some = fun_ext (λ k. by k (same_key other k) (same_key key k) refl)
  where
    by : (k : Key) (a b : Bool) → same_key key k ≡ b
        → (if a then (if b then c k - 1 else c k) + 1 else (if b then c k - 1 else c k)) ≡ (if b then (if a then c k + 1 else c k) - 1 else (if a then c k + 1 else c k))
    by k true true e = omega (arith, subst (λ j. 0 < c j) (keys_are key k e) some)
    by k true false e = refl
    by k false true e = refl
    by k false false e = refl

-- one more and one less
more_less : (key : Key) (c : Key → ℕ) → with_one_less key (with_one_more key c) ≡ c
more_less key c = fun_ext (λ k. by k (same_key key k))
  where
    by : (k : Key) (b : Bool) → (if b then (if b then c k + 1 else c k) - 1 else (if b then c k + 1 else c k)) ≡ c k
    by k true = omega (arith)
    by k false = refl

-- ---- faults without so many of each key

-- without one more
pub without_more : (g : Fault) (c : Key → ℕ) (fs : List Fault) → without_one g (without c fs) ≡ without (with_one_more (key_of g) c) fs
without_more g c [] = refl
without_more g c (f ∷ fs) = by (nat_lt 0 (c (key_of f))) refl (without_more g c fs) (without_more g (with_one_less (key_of f) c) fs)
  where
    key : Key
    key = key_of f

    here : (b : Bool) → same_key (key_of g) key ≡ b → nat_lt 0 (c key) ≡ false → without_one g (without c fs) ≡ without (with_one_more (key_of g) c) fs
        → (if b then without c fs else f ∷ without_one g (without c fs))
        ≡ (if nat_lt 0 (if b then c key + 1 else c key) then without (with_one_less key (with_one_more (key_of g) c)) fs else f ∷ without (with_one_more (key_of g) c) fs)
    here true same none rest =
        sym (ap (λ (t : Bool). if t then without (with_one_less key (with_one_more (key_of g) c)) fs else f ∷ without (with_one_more (key_of g) c) fs)
        (is_less 0 (c key + 1) (omega arith))
        ∙ ap (λ (d : Key → ℕ). without d fs)
        (ap (λ k. with_one_less key (with_one_more k c)) (keys_are (key_of g) key same) ∙ more_less key c))
    here false other none rest =
        ap (λ gs. f ∷ gs) rest
        ∙ sym (ap (λ (t : Bool). if t then without (with_one_less key (with_one_more (key_of g) c)) fs else f ∷ without (with_one_more (key_of g) c) fs) none)

    by : (b : Bool) → nat_lt 0 (c key) ≡ b → without_one g (without c fs) ≡ without (with_one_more (key_of g) c) fs
        → without_one g (without (with_one_less key c) fs) ≡ without (with_one_more (key_of g) (with_one_less key c)) fs
        → without_one g (if b then without (with_one_less key c) fs else f ∷ without c fs)
        ≡ (if nat_lt 0 (with_one_more (key_of g) c key) then without (with_one_less key (with_one_more (key_of g) c)) fs else f ∷ without (with_one_more (key_of g) c) fs)
    by true e kept taken =
        let some : 0 < c key = ltb-true 0 (c key) e in
        taken ∙ ap (λ (d : Key → ℕ). without d fs) (less_more key (key_of g) c some)
        ∙ sym (ap (λ (t : Bool). if t then without (with_one_less key (with_one_more (key_of g) c)) fs else f ∷ without (with_one_more (key_of g) c) fs)
        (is_less 0 (with_one_more (key_of g) c key) (omega (arith, some, at_least (key_of g) key c))))
    by false e kept taken = here (same_key (key_of g) key) refl e kept

-- how many are left
left_among : (k : Key) (c : Key → ℕ) (fs : List Fault) → among (without c fs) k ≡ among fs k - c k
left_among k c [] = omega (arith)
left_among k c (f ∷ fs) = by (nat_lt 0 (c (key_of f))) refl (left_among k c fs) (left_among k (with_one_less (key_of f) c) fs)
  where
    key : Key
    key = key_of f

    taken : (b : Bool) → same_key key k ≡ b → 0 < c key → among (without (with_one_less key c) fs) k ≡ among fs k - (if b then c k - 1 else c k)
        → among (without (with_one_less key c) fs) k ≡ (if b then among fs k + 1 else among fs k) - c k
    taken true same some rest = omega (arith, rest, subst (λ j. 0 < c j) (keys_are key k same) some)
    taken false other some rest = rest

    kept : (b : Bool) → same_key key k ≡ b → c key ≤ 0 → among (without c fs) k ≡ among fs k - c k
        → (if b then among (without c fs) k + 1 else among (without c fs) k) ≡ (if b then among fs k + 1 else among fs k) - c k
    kept true same none rest = omega (arith, rest, subst (λ j. c j ≤ 0) (keys_are key k same) none)
    kept false other none rest = rest

    by : (b : Bool) → nat_lt 0 (c key) ≡ b → among (without c fs) k ≡ among fs k - c k → among (without (with_one_less key c) fs) k ≡ among fs k - with_one_less key c k
        → among (if b then without (with_one_less key c) fs else f ∷ without c fs) k ≡ (if same_key key k then among fs k + 1 else among fs k) - c k
    by true e all less = taken (same_key key k) refl (ltb-true 0 (c key) e) less
    by false e all less = kept (same_key key k) refl (ltb-false 0 (c key) e) all

any_among : (g : Fault) (fs : List Fault) → list_any (same_fault g) fs ≡ nat_lt 0 (among fs (key_of g))
any_among g [] = refl
any_among g (f ∷ fs) = ap (λ (b : Bool). b || list_any (same_fault g) fs) (reversed (key_of g) (key_of f)) ∙ by (same_key (key_of f) (key_of g)) (any_among g fs)
  where
    by : (b : Bool) → list_any (same_fault g) fs ≡ nat_lt 0 (among fs (key_of g)) → (b || list_any (same_fault g) fs) ≡ nat_lt 0 (if b then among fs (key_of g) + 1 else among fs (key_of g))
    by true rest = sym (is_less 0 (among fs (key_of g) + 1) (omega arith))
    by false rest = rest

-- whether one is left
any_left : (g : Fault) (c : Key → ℕ) (fs : List Fault) → list_any (same_fault g) (without c fs) ≡ nat_lt (c (key_of g)) (among fs (key_of g))
any_left g c fs = any_among g (without c fs) ∙ (ap (nat_lt 0) (left_among (key_of g) c fs)
    ∙ same_tests 0 (among fs (key_of g) - c (key_of g)) (c (key_of g)) (among fs (key_of g)) (λ h. omega (arith, h)) (λ h. omega (arith, h)))

-- ---- one fault of a difference

-- what comes of a fault with a key behind turns
abbrev taken_by : List Turn → Fault → List Fault → List Fault → (Key → ℕ) → Key → Difference
taken_by turns f fs later c key = if nat_lt (c key) (among later key)
    then difference turns fs (without (with_one_more key c) later) else with_gone f (difference turns fs (without c later))

pub one_taken : (turns : List Turn) (f : Fault) (fs later : List Fault) (c : Key → ℕ) (key : Option Key) → key ≡ option_map key_of (fault_behind turns f)
    → difference turns (f ∷ fs) (without c later) ≡ option_map_or (taken_by turns f fs later c) key (with_gone f (difference turns fs (without c later)))
one_taken turns f fs later c key is = by (fault_behind turns f) is
  where
    found : (g : Fault) (b : Bool) → list_any (same_fault g) (without c later) ≡ b → nat_lt (c (key_of g)) (among later (key_of g)) ≡ b
        → (if b then difference turns fs (without_one g (without c later)) else with_gone f (difference turns fs (without c later)))
        ≡ (if b then difference turns fs (without (with_one_more (key_of g) c) later) else with_gone f (difference turns fs (without c later)))
    found g true e same = ap (difference turns fs) (without_more g c later)
    found g false e same = refl

    by : (o : Option Fault) → key ≡ option_map key_of o
        → option_map_or (λ g. if list_any (same_fault g) (without c later) then difference turns fs (without_one g (without c later)) else with_gone f (difference turns fs (without c later)))
        o (with_gone f (difference turns fs (without c later)))
        ≡ option_map_or (taken_by turns f fs later c) key (with_gone f (difference turns fs (without c later)))
    by None is = ap (λ (o : Option Key). option_map_or (taken_by turns f fs later c) o (with_gone f (difference turns fs (without c later)))) (sym is)
    by (Some g) is =
        ap (λ (b : Bool). if b then difference turns fs (without_one g (without c later)) else with_gone f (difference turns fs (without c later))) (any_left g c later)
        ∙ (found g (nat_lt (c (key_of g)) (among later (key_of g))) (any_left g c later) refl
        ∙ ap (λ (o : Option Key). option_map_or (taken_by turns f fs later c) o (with_gone f (difference turns fs (without c later)))) (sym is))

-- one of the key is taken, if one was left
pub taken_there : {E : Type 0} (turns : List Turn) (f : Fault) (key : Key) → Some key ≡ option_map key_of (fault_behind turns f) → (all old new : Key → ℕ) (r : Result Bool E)
    → IfOk r (λ was. was ≡ nat_lt (old key) (all key)) → IfOk r (λ was. (k : Key) → new k ≡ (if was && same_key key k then old k + 1 else old k))
    → IfOk r (λ was. (fs later : List Fault) → ((k : Key) → all k ≡ among later k)
    → difference turns (f ∷ fs) (without old later) ≡ with_gone_unless was f (difference turns fs (without new later)))
taken_there turns f key is all old new (Err e) was counts = tt
taken_there turns f key is all old new (Ok taken) was counts = λ fs later same.
    one_taken turns f fs later old (Some key) is ∙ by fs later taken (was ∙ ap (nat_lt (old key)) (same key)) counts
  where
    by : (fs later : List Fault) (b : Bool) → b ≡ nat_lt (old key) (among later key) → ((k : Key) → new k ≡ (if b && same_key key k then old k + 1 else old k))
        → taken_by turns f fs later old key ≡ with_gone_unless b f (difference turns fs (without new later))
    by fs later true e counts =
        ap (λ (b : Bool). if b then difference turns fs (without (with_one_more key old) later) else with_gone f (difference turns fs (without old later))) (sym e)
        ∙ ap (λ (c : Key → ℕ). difference turns fs (without c later)) (sym (fun_ext counts))
    by fs later false e counts =
        ap (λ (b : Bool). if b then difference turns fs (without (with_one_more key old) later) else with_gone f (difference turns fs (without old later))) (sym e)
        ∙ ap (λ (c : Key → ℕ). with_gone f (difference turns fs (without c later))) (sym (fun_ext counts))

-- where nothing is taken all are left
none_without : (c : Key → ℕ) → ((k : Key) → c k ≡ 0) → (fs : List Fault) → without c fs ≡ fs
none_without c none [] = refl
none_without c none (f ∷ fs) = ap (λ (n : ℕ). if nat_lt 0 n then without (with_one_less (key_of f) c) fs else f ∷ without c fs) (none (key_of f))
    ∙ ap (λ gs. f ∷ gs) (none_without c none fs)

pub compared : (turns : List Turn) (earlier later : List Fault) (old new : Key → ℕ) → ((k : Key) → old k ≡ 0) → (told gone : List Fault) → told ≡ without new later
    → difference turns earlier (without old later) ≡ record { told = without new later; gone = gone } → record { told = told; gone = gone } ≡ difference turns earlier later
compared turns earlier later old new none told gone left made =
    ap (λ (fs : List Fault). let d : Difference = record { told = fs; gone = gone } in d) left
    ∙ (sym made ∙ ap (difference turns earlier) (none_without old none later))

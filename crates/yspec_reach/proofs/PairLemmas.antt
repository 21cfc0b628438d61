-- Different values that are shared have no more references outside the parts than are counted.
use Rattle.std.proofs.Common.{◌≡◌, ℕ, ◌+◌, ◌≤◌, Bool, true, false, cond, not, ◌&&◌, ◌||◌, List, [], ◌∷◌, Option, Some, None, refl, sym, ap, ◌∙◌, subst, arith, eqb}
use Rattle.std.proofs.lemmas.Bool.{eqb-true, eq-eqb}
use Rattle.std.specs.List.{list_all, list_any}
use Rattle.std.specs.Option.{option_map_or}
use Rattle.yspec.specs.Forest.{end, node, weigh}
use Rattle.yspec.specs.types.Types.{Val}
use Rattle.yspec.specs.types.Order.{same_value}
use Rattle.yspec.specs.schema.Schema.{Schema}
use Rattle.yspec.specs.document.Document.{Stored, Tree}
use Rattle.yspec.proofs.TypeProofs.OrderLemmas.{tells_values}
use Rattle.yspec_reach.specs.Parts.{Exchange, outside}
use Rattle.yspec_reach.specs.Referring.{Reference, same_reference, reference_of, refers, referring, are_distinct}
use Rattle.yspec_reach.specs.Shared.{is_shared_value, shares_value, value_pairs}

-- ---- tests

both : (a b : Bool) → (a && b) ≡ true → (a ≡ true) × (b ≡ true)
both true b e = (refl, e)
both false b e = absurd cc

join_both : (a b : Bool) → a ≡ true → b ≡ true → (a && b) ≡ true
join_both true b e f = f
join_both false b e f = absurd cc

neither : (a b : Bool) → (a || b) ≡ false → (a ≡ false) × (b ≡ false)
neither true b e = absurd cc
neither false b e = (refl, e)

not_true : (b : Bool) → not b ≡ true → b ≡ false
not_true true e = absurd cc
not_true false e = refl

clash : {A : Type 0} (b : Bool) → b ≡ true → b ≡ false → A
clash true e f = absurd cc
clash false e f = absurd cc

-- ---- references

same_is : (r q : Reference) → same_reference r q ≡ true → r ≡ q
same_is (m, v) (n, w) e = let halves = both (eqb m n) (same_value v w) e in
    let first : (m, v) ≡ (n, v) = ap (λ (k : ℕ). (k, v)) (eqb-true m n halves.0) in
    let second : (n, v) ≡ (n, w) = ap (λ (u : Val). (n, u)) ((tells_values v w).0 halves.1) in
    first ∙ second

same_itself : (r : Reference) → same_reference r r ≡ true
same_itself (n, v) = join_both (eqb n n) (same_value v v) (eq-eqb n n refl) ((tells_values v v).1 refl)

is_same : (r q : Reference) → r ≡ q → same_reference r q ≡ true
is_same r q e = subst (λ (p : Reference). same_reference r p ≡ true) e (same_itself r)

-- a node refers to one thing alone
one_alone : (o : Option Reference) (r q : Reference) → option_map_or (same_reference r) o false ≡ true
    → option_map_or (same_reference q) o false ≡ true → r ≡ q
one_alone (Some x) r q a b = same_is r x a ∙ sym (same_is q x b)
one_alone None r q a b = absurd cc

-- ---- sums

added : (a b c : Stored → ℕ) → ((s : Stored) → a s + b s ≤ c s) → (t : Tree) → weigh a t + weigh b t ≤ weigh c t
added a b c each end = omega arith
added a b c each (node s below after) = let here = each s in let inner = added a b c each below in let rest = added a b c each after in
    omega (arith, here, inner, rest)

less : (a c : Stored → ℕ) → ((s : Stored) → a s ≤ c s) → (t : Tree) → weigh a t ≤ weigh c t
less a c each end = omega arith
less a c each (node s below after) = let here = each s in let inner = less a c each below in let rest = less a c each after in
    omega (arith, here, inner, rest)

module _ (schema : Schema) where
  abbrev any_of : List Reference → Stored → Bool
  any_of rs s = list_any (λ q. refers schema q s) rs

  none_other : (s : Stored) (r : Reference) (rs : List Reference) → list_any (same_reference r) rs ≡ false → refers schema r s ≡ true
      → any_of rs s ≡ false
  none_other s r [] apart is = refl
  none_other s r (q ∷ rs) apart is = let halves = neither (same_reference r q) (list_any (same_reference r) rs) apart in
      by (refers schema q s) refl halves.0 (none_other s r rs halves.1 is)
    where
      by : (b : Bool) → refers schema q s ≡ b → same_reference r q ≡ false → any_of rs s ≡ false → (b || any_of rs s) ≡ false
      by true that differs rest = clash (same_reference r q) (is_same r q (one_alone (reference_of schema s) r q is that)) differs
      by false that differs rest = rest

  one_more : (s : Stored) (r : Reference) (rs : List Reference) → list_any (same_reference r) rs ≡ false
      → cond (refers schema r s) 1 0 + cond (any_of rs s) 1 0 ≤ cond (refers schema r s || any_of rs s) 1 0
  one_more s r rs apart = by (refers schema r s) refl
    where
      by : (b : Bool) → refers schema r s ≡ b → cond b 1 0 + cond (any_of rs s) 1 0 ≤ cond (b || any_of rs s) 1 0
      by true that = subst (λ c. 1 + cond c 1 0 ≤ 1) (sym (none_other s r rs apart that)) (omega arith)
      by false that = omega arith

  referred : (t : Tree) (rs : List Reference) → are_distinct rs ≡ true → referring schema rs t ≤ weigh (λ s. cond (any_of rs s) 1 0) t
  referred t [] distinct = omega arith
  referred t (r ∷ rs) distinct =
      let halves = both (not (list_any (same_reference r) rs)) (are_distinct rs) distinct in
      let rest = referred t rs halves.1 in
      let step = added (λ s. cond (refers schema r s) 1 0) (λ s. cond (any_of rs s) 1 0) (λ s. cond (any_of (r ∷ rs) s) 1 0)
      (λ s. one_more s r rs (not_true (list_any (same_reference r) rs) halves.0)) t in
      omega (arith, rest, step)

  module _ (x : Exchange) where
    abbrev is_shared : Reference → Bool
    is_shared r = is_shared_value schema x r.0 r.1

    shared_one : (o : Option Reference) (r : Reference) → is_shared r ≡ true → option_map_or (same_reference r) o false ≡ true
        → option_map_or is_shared o false ≡ true
    shared_one (Some q) r is same = subst (λ (p : Reference). is_shared p ≡ true) (same_is r q same) is
    shared_one None r is same = absurd cc

    any_shared : (s : Stored) (rs : List Reference) → list_all is_shared rs ≡ true → any_of rs s ≡ true → shares_value schema x s ≡ true
    any_shared s [] all any = absurd cc
    any_shared s (r ∷ rs) all any = let halves = both (is_shared r) (list_all is_shared rs) all in
        by (refers schema r s) refl any halves.0 (λ found. any_shared s rs halves.1 found)
      where
        by : (b : Bool) → refers schema r s ≡ b → (b || any_of rs s) ≡ true → is_shared r ≡ true
            → (any_of rs s ≡ true → shares_value schema x s ≡ true) → shares_value schema x s ≡ true
        by true that found shared rest = shared_one (reference_of schema s) r shared that
        by false that found shared rest = rest found

    one_shared : (s : Stored) (rs : List Reference) → list_all is_shared rs ≡ true → cond (any_of rs s) 1 0 ≤ cond (shares_value schema x s) 1 0
    one_shared s rs all = by (any_of rs s) refl
      where
        by : (b : Bool) → any_of rs s ≡ b → cond b 1 0 ≤ cond (shares_value schema x s) 1 0
        by true any = subst (λ c. 1 ≤ cond c 1 0) (sym (any_shared s rs all any)) (omega arith)
        by false any = omega arith

    pub values_paid : (tree : Tree) (rs : List Reference) → list_all (λ r. is_shared_value schema x r.0 r.1) rs ≡ true → are_distinct rs ≡ true
        → referring schema rs (outside x tree) ≤ value_pairs schema x tree
    values_paid tree rs all distinct =
        let first = referred (outside x tree) rs distinct in
        let second = less (λ s. cond (any_of rs s) 1 0) (λ s. cond (shares_value schema x s) 1 0) (λ s. one_shared s rs all) (outside x tree) in
        omega (arith, first, second)

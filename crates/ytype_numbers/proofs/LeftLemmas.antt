-- The names that are left of others, one after another.
use Rattle.std.proofs.Common.{◌≡◌, ◌++◌, ℤ, Bool, true, false, ◌&&◌, cond, List, [], ◌∷◌, map, refl, sym, ap, subst, ◌∙◌, append_assoc}
use Rattle.std.specs.Prelude.{filter, int_lt}
use Rattle.std.specs.List.{list_all, AllByRecursion}
use Rattle.std.specs.List.Sorted.{IsStrictlySortedBy}
use Rattle.std.specs.Ordering.{int_cmp}
use Rattle.std.specs.declared.cmp.Ordering.TheVariants.{Less, Equal, Greater}
use Rattle.std.specs.declared.string.String.{String}
use Rattle.std.proofs.lemmas.Bool.{and_from}
use Rattle.yspec.specs.types.Names.{Assigned}
use Rattle.ytype_numbers.specs.Tables.{assigned, AreBefore, AreAscending}

less_is : (x y : ℤ) → int_cmp x y ≡ Less → int_lt x y ≡ true
less_is x y e = by (int_lt x y) (int_lt y x) e
  where
    by : (a b : Bool) → cond a Less (cond b Greater Equal) ≡ Less → a ≡ true
    by true b e = refl
    by false true e = absurd cc
    by false false e = absurd cc

-- the keys of a table ascend
one_before : {Z : Type 0} (x : ℤ) (s : String Z) (es : List (ℤ × String Z)) → AllByRecursion (λ y. int_cmp x y ≡ Less) (map (λ e. e.0) es)
    → AreBefore (assigned ((x, s) ∷ [])) (assigned es)
one_before x s [] all = tt
one_before x s (e ∷ es) all = (and_from (int_lt x e.0) true (less_is x e.0 all.0) refl, one_before x s es all.1)

pub ascending : {Z : Type 0} (es : List (ℤ × String Z)) → IsStrictlySortedBy int_cmp (map (λ e. e.0) es) → AreAscending (assigned es)
unfolding IsStrictlySortedBy
ascending [] sorted = tt
ascending (e ∷ es) sorted = (one_before e.0 e.1 es sorted.0, ascending es sorted.1)

pub none_before : (names : List Assigned) → AreBefore [] names
none_before [] = tt
none_before (a ∷ names) = (refl, none_before names)

all_more : (p : Assigned → Bool) (names : List Assigned) (a : Assigned) → list_all p names ≡ true → p a ≡ true → list_all p (names ++ a ∷ []) ≡ true
all_more p [] a all one = and_from (p a) true one refl
all_more p (b ∷ names) a all one = by (p b) (list_all p names) all (all_more p names a)
  where
    by : (here others : Bool) → (here && others) ≡ true → (others ≡ true → p a ≡ true → list_all p (names ++ a ∷ []) ≡ true)
        → (here && list_all p (names ++ a ∷ [])) ≡ true
    by true true all more = more refl one
    by true false all more = absurd cc
    by false others all more = absurd cc

-- one more, which stands before the others too
pub before_more : (names : List Assigned) (a : Assigned) (others : List Assigned) (b : Bool) → AreBefore names others → AreBefore (a ∷ []) others
    → AreBefore (names ++ cond b (a ∷ []) []) others
before_more names a [] b are one = tt
before_more names a (o ∷ others) true are one = (
  all_more (λ (n : Assigned). int_lt n.number o.number) names a are.0 (alone (int_lt a.number o.number) one.0),
  before_more names a others true are.1 one.1,
)
  where
    alone : (b : Bool) → (b && true) ≡ true → b ≡ true
    alone true e = refl
    alone false e = absurd cc
before_more names a (o ∷ others) false are one =
    subst (λ (ns : List Assigned). AreBefore ns (o ∷ others)) (sym (nothing_more names)) are
  where
    nothing_more : (names : List Assigned) → names ++ [] ≡ names
    nothing_more [] = refl
    nothing_more (n ∷ names) = ap (λ (ns : List Assigned). n ∷ ns) (nothing_more names)

-- those that are left with one more
pub one_left : (p : Assigned → Bool) (so_far : List Assigned) (a : Assigned) (others whole : List Assigned)
    → so_far ++ filter p (a ∷ others) ≡ whole → (so_far ++ cond (p a) (a ∷ []) []) ++ filter p others ≡ whole
one_left p so_far a others whole made = append_assoc so_far (cond (p a) (a ∷ []) []) (filter p others) ∙ (ap (λ (ns : List Assigned). so_far ++ ns) (by (p a)) ∙ made)
  where
    by : (b : Bool) → cond b (a ∷ []) [] ++ filter p others ≡ cond b (a ∷ filter p others) (filter p others)
    by true = refl
    by false = refl

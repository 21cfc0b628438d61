-- How many others a `uses` leads over: what passes a test of it by way of some passes it by way of more; and how many of a list come before
-- one by a number.
use Rattle.std.proofs.Common.{◌≡◌, ℕ, zero, suc, ◌+◌, ◌-◌, ◌≤◌, ◌<◌, Bool, true, false, cond, ◌&&◌, List, [], ◌∷◌, length, get_or, refl, ap, ◌∙◌, arith, subst}
use Rattle.std.specs.Prelude.{nat_lt, ◌==◌}
use Rattle.std.specs.List.{Contains}
use Rattle.std.proofs.lemmas.Bool.{and_parts, lt-ltb, le-ltb, ltb-true}
use Rattle.std.proofs.lemmas.Bool.Decides.{Decides-eqb}
use Rattle.yspec.specs.Forest.{Forest, end, node}
use Rattle.yspec.specs.linking.Augments.{Augment}
use Rattle.yspec.specs.linking.Source.{Source}
use Rattle.yspec.specs.linking.Parts.{Part}
use Rattle.yspec.specs.linking.Expansion.{Grouping, is_uses, laid, row_used}
use Rattle.yspec.specs.linking.Rewriting.{all_uses}
use Rattle.yspec_wide.specs.Expansion.{inner_augments}
use Rattle.yspec_wide.specs.Language.{Language}
use Rattle.yschema_expand.specs.Walk.{all_inner, ends_within_in}

pub both : (x y : Bool) → x ≡ true → y ≡ true → (x && y) ≡ true
both true y e h = h
both false y e h = absurd cc

-- ---- a test that says less

pub weaker_test : (test other : Part → Bool) → ((u : Part) → test u ≡ true → other u ≡ true) → (f : Forest Part) → all_uses test f ≡ true → all_uses other f ≡ true
unfolding all_uses
weaker_test test other gives end all = refl
weaker_test test other gives (node p below after) all =
    by (is_uses p) all (weaker_test test other gives below) (weaker_test test other gives after)
  where
    by : (b : Bool) → (cond b (test p) (all_uses test below) && all_uses test after) ≡ true
        → (all_uses test below ≡ true → all_uses other below ≡ true) → (all_uses test after ≡ true → all_uses other after ≡ true)
        → (cond b (other p) (all_uses other below) && all_uses other after) ≡ true
    by true all inner rest =
        let parts = and_parts (test p) (all_uses test after) all in
        both (other p) (all_uses other after) (gives p parts.0) (rest parts.1)
    by false all inner rest =
        let parts = and_parts (all_uses test below) (all_uses test after) all in
        both (all_uses other below) (all_uses other after) (inner parts.0) (rest parts.1)

weaker_inner : (test other : Part → Bool) → ((u : Part) → test u ≡ true → other u ≡ true) → (xs : List Augment) → all_inner test xs ≡ true → all_inner other xs ≡ true
weaker_inner test other gives [] all = refl
weaker_inner test other gives (a ∷ xs) all =
    let parts = and_parts (all_uses test (laid a.given)) (all_inner test xs) all in
    both (all_uses other (laid a.given)) (all_inner other xs) (weaker_test test other gives (laid a.given) parts.0) (weaker_inner test other gives xs parts.1)

-- ---- by way of more

abbrev deeper : ℕ → ℕ → ℕ
deeper zero depth = depth
deeper (suc more) depth = suc (deeper more depth)

is_sum : (more depth : ℕ) → deeper more depth ≡ more + depth
is_sum zero depth = omega arith
is_sum (suc more) depth = let e = is_sum more depth in omega (arith, e)

module _ (language : Language) (modules : Forest Source) (groupings : List Grouping) where
  abbrev ends : ℕ → Part → Bool
  ends depth = ends_within_in language modules groupings depth

  one_deeper : (depth : ℕ) (u : Part) → ends depth u ≡ true → ends (suc depth) u ≡ true
  unfolding ends_within_in
  one_deeper zero u all = absurd cc
  one_deeper (suc depth) u all =
      let row = row_used modules groupings u in
      let augments = inner_augments language u.own in
      let parts = and_parts (all_uses (ends depth) row) (all_inner (ends depth) augments) all in
      both (all_uses (ends (suc depth)) row) (all_inner (ends (suc depth)) augments)
      (weaker_test (ends depth) (ends (suc depth)) (one_deeper depth) row parts.0)
      (weaker_inner (ends depth) (ends (suc depth)) (one_deeper depth) augments parts.1)

  by_more : (more depth : ℕ) (u : Part) → ends depth u ≡ true → ends (deeper more depth) u ≡ true
  by_more zero depth u all = all
  by_more (suc more) depth u all = one_deeper (deeper more depth) u (by_more more depth u all)

  pub ends_deeper_to : (here there : ℕ) (u : Part) → here ≤ there → ends here u ≡ true → ends there u ≡ true
  ends_deeper_to here there u less all =
      let same : deeper (there - here) here ≡ there = is_sum (there - here) here ∙ omega (arith, less) in
      subst (λ d. ends d u ≡ true) same (by_more (there - here) here u all)

-- ---- how many of a list have a number below another

module _ {A : Type 0} (key : A → ℕ) where
  abbrev one_if : Bool → ℕ
  one_if b = cond b 1 0

  abbrev pub few : ℕ → List A → ℕ
  few k [] = 0
  few k (q ∷ qs) = one_if (nat_lt (key q) k) + few k qs

  at_most_one : (b : Bool) → one_if b ≤ 1
  at_most_one true = omega arith
  at_most_one false = omega arith

  pub few_most : (k : ℕ) (qs : List A) → few k qs ≤ length qs
  few_most k [] = omega arith
  few_most k (q ∷ qs) = let rest = few_most k qs in let own = at_most_one (nat_lt (key q) k) in omega (arith, rest, own)

  one_more : (a b k : ℕ) → a ≤ b → one_if (nat_lt k a) ≤ one_if (nat_lt k b)
  one_more a b k le = by (nat_lt k a) refl
    where
      by : (x : Bool) → nat_lt k a ≡ x → one_if x ≤ one_if (nat_lt k b)
      by false is = omega arith
      by true is =
          let below = ltb-true k a is in
          let above : one_if (nat_lt k b) ≡ 1 = ap one_if (lt-ltb k b (omega (arith, below, le))) in
          omega (arith, above)

  few_more : (a b : ℕ) → a ≤ b → (qs : List A) → few a qs ≤ few b qs
  few_more a b le [] = omega arith
  few_more a b le (q ∷ qs) = let rest = few_more a b le qs in let own = one_more a b (key q) le in omega (arith, rest, own)

  pub few_less : (a b : ℕ) (qs : List A) (q : A) → Contains qs q → a ≤ b → a ≤ key q → key q < b → few a qs < few b qs
  few_less a b [] q at le low high = absurd (let inside = at.1 in omega (arith, inside))
  few_less a b (x ∷ qs) q (zero, inside, is) le low high =
      let first : one_if (nat_lt (key x) a) ≡ 0 = ap (λ y. one_if (nat_lt (key y) a)) is ∙ ap one_if (le-ltb (key q) a low) in
      let second : one_if (nat_lt (key x) b) ≡ 1 = ap (λ y. one_if (nat_lt (key y) b)) is ∙ ap one_if (lt-ltb (key q) b high) in
      let rest = few_more a b le qs in
      omega (arith, first, second, rest)
  few_less a b (x ∷ qs) q (suc k, inside, is) le low high =
      let rest = few_less a b qs q (k, omega (arith, inside), is) le low high in
      let own = one_more a b (key x) le in
      omega (arith, rest, own)

-- ---- where a number stands first in a list

abbrev pub first_place : List ℕ → ℕ → ℕ
first_place [] d = 0
first_place (k ∷ ks) d = cond (k == d) 0 (suc (first_place ks d))

pub place_most : (ks : List ℕ) (d : ℕ) → first_place ks d ≤ length ks
place_most [] d = omega arith
place_most (k ∷ ks) d = by (k == d) (place_most ks d)
  where
    by : (b : Bool) → first_place ks d ≤ length ks → cond b 0 (suc (first_place ks d)) ≤ suc (length ks)
    by true rest = omega arith
    by false rest = omega (arith, rest)

pub place_is : (ks : List ℕ) (d : ℕ) → first_place ks d < length ks → get_or ks (first_place ks d) 0 ≡ d
place_is [] d inside = absurd (omega (arith, inside))
place_is (k ∷ ks) d inside = by (k == d) refl inside (place_is ks d)
  where
    by : (b : Bool) → (k == d) ≡ b → cond b 0 (suc (first_place ks d)) < suc (length ks) → (first_place ks d < length ks → get_or ks (first_place ks d) 0 ≡ d)
        → get_or (k ∷ ks) (cond b 0 (suc (first_place ks d))) 0 ≡ d
    by true is inside rest = (Decides-eqb k d).0 is
    by false is inside rest = rest (omega (arith, inside))

pub place_first : (ks : List ℕ) (d j : ℕ) → j < length ks → get_or ks j 0 ≡ d → first_place ks d ≤ j
place_first [] d j inside is = absurd (omega (arith, inside))
place_first (k ∷ ks) d zero inside is = let e = ap (λ b. cond b 0 (suc (first_place ks d))) ((Decides-eqb k d).1 is) in omega (arith, e)
place_first (k ∷ ks) d (suc j) inside is = by (k == d) (place_first ks d j (omega (arith, inside)) is)
  where
    by : (b : Bool) → first_place ks d ≤ j → cond b 0 (suc (first_place ks d)) ≤ suc j
    by true rest = omega arith
    by false rest = omega (arith, rest)

-- ---- so many times a number

abbrev pub weight : ℕ → ℕ → ℕ
weight n zero = 0
weight n (suc r) = n + weight n r

weight_more : (n a b : ℕ) → a ≤ b → weight n a ≤ weight n b
weight_more n zero b le = omega arith
weight_more n (suc a) zero le = absurd (omega (arith, le))
weight_more n (suc a) (suc b) le = let rest = weight_more n a b (omega (arith, le)) in omega (arith, rest)

pub weight_less : (n a b : ℕ) → a < b → n + weight n a ≤ weight n b
weight_less n a zero less = absurd (omega (arith, less))
weight_less n a (suc b) less = let rest = weight_more n a b (omega (arith, less)) in omega (arith, rest)

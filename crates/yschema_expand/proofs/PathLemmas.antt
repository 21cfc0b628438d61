-- Nodes put last below the one to which a path leads, by its number.
use Rattle.std.proofs.Common.{◌≡◌, ℕ, suc, ◌+◌, ◌-◌, ◌<◌, ◌≤◌, Bool, true, false, cond, nat_lt, List, [], ◌∷◌, Option, Some, None, refl, sym, ap, ap₂, ◌∙◌, arith, subst}
use Rattle.std.proofs.lemmas.Bool.{lt-ltb, le-ltb}
use Rattle.std.proofs.lemmas.Bool.Decides.{Decides-eqb}
use Rattle.std.specs.Prelude.{option_and_then, option_map}
use Rattle.std.specs.Option.{IfSome}
use Rattle.yspec.specs.Forest.{Forest, end, node, size, join, change_nth}
use Rattle.yspec.specs.linking.Parts.{Part, within}
use Rattle.yspec.specs.linking.Prefixes.{NodeName}
use Rattle.yspec.specs.linking.Expansion.{is_step, changed_at}
use Rattle.yschema_expand.specs.Hanging.{put_at}
use Rattle.yschema_expand.specs.Targets.{Found, found_in, found_at}
use Rattle.yschema_expand.proofs.HangLemmas.{differs}

-- ---- which of three ways it goes

module _ (n k : ℕ) (new : Forest Part) (p : Part) (below after : Forest Part) where
  abbrev put : Bool → Bool → Forest Part
  put a b = cond a (node p (join below new) after) (cond b (node p (put_at n (k + 1) new below) after)
      (node p below (put_at n (k + suc (size below)) new after)))

  put_here : n ≡ k → put_at n k new (node p below after) ≡ node p (join below new) after
  put_here same = ap (λ a. put a (nat_lt n (k + suc (size below)))) ((Decides-eqb n k).1 same)

  put_inside : k < n → n < k + suc (size below) → put_at n k new (node p below after) ≡ node p (put_at n (k + 1) new below) after
  put_inside more less = ap₂ put (differs n k (λ same. omega (arith, same, more))) (lt-ltb n (k + suc (size below)) less)

  put_behind : k + suc (size below) ≤ n → put_at n k new (node p below after) ≡ node p below (put_at n (k + suc (size below)) new after)
  put_behind more = ap₂ put (differs n k (λ same. omega (arith, same, more))) (le-ltb n (k + suc (size below)) more)

-- ---- the numbers of what is found

abbrev IsIn : ℕ → Forest Part → Found → Type 0
IsIn k f x = (k ≤ x.number) × (x.number + size x.below < k + size f)

top_in : (test : Part → Bool) (k : ℕ) (f : Forest Part) (x : Found) → found_in test k f ≡ Some x → IsIn k f x
top_in test k end x e = absurd cc
top_in test k (node p below after) x e = by (test p) e (λ later. top_in test (k + suc (size below)) after x later)
  where
    by : (b : Bool) → cond b (Some (record { number = k; part = p; below = below })) (found_in test (k + suc (size below)) after) ≡ Some x
        → (found_in test (k + suc (size below)) after ≡ Some x → IsIn (k + suc (size below)) after x) → IsIn k (node p below after) x
    by true e rest =
        let same : record { number = k; part = p; below = below } ≡ x = cc in
        subst (λ (z : Found). IsIn k (node p below after) z) same (omega arith, omega arith)
    by false e rest = let there = rest e in let least = there.0 in let most = there.1 in (omega (arith, least), omega (arith, most))

path_in : (steps : List NodeName) (k : ℕ) (f : Forest Part) (x : Found) → found_at steps k f ≡ Some x → IsIn k f x
path_in [] k f x e = absurd cc
path_in (step ∷ []) k f x e = top_in (is_step step) k f x e
path_in (step ∷ next ∷ steps) k f x e = by (found_in (is_step step) k f) refl e (λ n g later. path_in (next ∷ steps) n g x later)
  where
    by : (o : Option Found) → found_in (is_step step) k f ≡ o
        → option_and_then (λ (y : Found). found_at (next ∷ steps) (y.number + 1) y.below) o ≡ Some x
        → ((n : ℕ) (g : Forest Part) → found_at (next ∷ steps) n g ≡ Some x → IsIn n g x) → IsIn k f x
    by None found later rest = absurd cc
    by (Some y) found later rest =
        let above = top_in (is_step step) k f y found in
        let there = rest (y.number + 1) y.below later in
        let a = above.0 in let b = above.1 in let c = there.0 in let d = there.1 in
        (omega (arith, a, c), omega (arith, b, d))

-- the number to which a path leads among the rows from a number on
pub number_among : (steps : List NodeName) (first length : ℕ) (f : Forest Part) (found : Option Found) (number : Option ℕ)
    → number ≡ option_map (λ (x : Found). x.number) found → found ≡ found_at steps first f → size f ≡ length - first
    → IfSome number (λ n. (first ≤ n) × (n < length))
number_among steps first length f None number is at count = subst (λ o. IfSome o (λ n. (first ≤ n) × (n < length))) (sym is) tt
number_among steps first length f (Some x) number is at count =
    let there = path_in steps first f x (sym at) in
    let least = there.0 in
    let most = there.1 in
    subst (λ o. IfSome o (λ n. (first ≤ n) × (n < length))) (sym is) (least, omega (arith, least, most, count))

-- ---- nodes put there

module _ (added : Forest Part) where
  abbrev pub last_below : Part → Forest Part → Forest Part → Forest Part
  last_below p below after = node p (join below (within p.source added)) after

  top_put : (test : Part → Bool) (k : ℕ) (f : Forest Part) (x : Found) → found_in test k f ≡ Some x
      → put_at x.number k (within x.part.source added) f ≡ change_nth test 0 last_below f
  top_put test k end x e = absurd cc
  top_put test k (node p below after) x e = by (test p) e (λ later. top_put test (k + suc (size below)) after x later)
    where
      by : (b : Bool) → cond b (Some (record { number = k; part = p; below = below })) (found_in test (k + suc (size below)) after) ≡ Some x
          → (found_in test (k + suc (size below)) after ≡ Some x
          → put_at x.number (k + suc (size below)) (within x.part.source added) after ≡ change_nth test 0 last_below after)
          → put_at x.number k (within x.part.source added) (node p below after)
          ≡ cond b (last_below p below after) (node p below (change_nth test 0 last_below after))
      by true e rest =
          let same : record { number = k; part = p; below = below } ≡ x = cc in
          subst (λ (z : Found). put_at z.number k (within z.part.source added) (node p below after) ≡ last_below p below after) same
          (put_here k k (within p.source added) p below after refl)
      by false e rest =
          let there = top_in test (k + suc (size below)) after x e in
          put_behind x.number k (within x.part.source added) p below after there.0 ∙ ap (node p below) (rest e)

  inner_put : (test : Part → Bool) (inner : Forest Part → Forest Part) (n : ℕ) (new : Forest Part) (k : ℕ) (f : Forest Part) (y : Found)
      → found_in test k f ≡ Some y → y.number + 1 ≤ n → n < y.number + 1 + size y.below
      → put_at n (y.number + 1) new y.below ≡ inner y.below
      → put_at n k new f ≡ change_nth test 0 (λ q below after. node q (inner below) after) f
  inner_put test inner n new k end y e least most is = absurd cc
  inner_put test inner n new k (node p below after) y e least most is =
      by (test p) e (λ later. inner_put test inner n new (k + suc (size below)) after y later least most is)
    where
      changed : Forest Part → Forest Part
      changed g = change_nth test 0 (λ q below after. node q (inner below) after) g

      by : (b : Bool) → cond b (Some (record { number = k; part = p; below = below })) (found_in test (k + suc (size below)) after) ≡ Some y
          → (found_in test (k + suc (size below)) after ≡ Some y → put_at n (k + suc (size below)) new after ≡ changed after)
          → put_at n k new (node p below after) ≡ cond b (node p (inner below) after) (node p below (changed after))
      by true e rest =
          let same : y ≡ record { number = k; part = p; below = below } = cc in
          let first : k + 1 ≤ n = subst (λ (z : Found). z.number + 1 ≤ n) same least in
          let last : n < k + 1 + size below = subst (λ (z : Found). n < z.number + 1 + size z.below) same most in
          let here : put_at n (k + 1) new below ≡ inner below = subst (λ (z : Found). put_at n (z.number + 1) new z.below ≡ inner z.below) same is in
          put_inside n k new p below after (omega (arith, first)) (omega (arith, last)) ∙ ap (λ g. node p g after) here
      by false e rest =
          let there = top_in test (k + suc (size below)) after y e in
          let a = there.0 in
          put_behind n k new p below after (omega (arith, a, least)) ∙ ap (node p below) (rest e)

  -- At the number of what is found they come below the node to which the path leads.
  pub path_put : (steps : List NodeName) (k : ℕ) (f : Forest Part) (x : Found) → found_at steps k f ≡ Some x
      → put_at x.number k (within x.part.source added) f ≡ changed_at steps last_below f
  path_put [] k f x e = absurd cc
  path_put (step ∷ []) k f x e = top_put (is_step step) k f x e
  path_put (step ∷ next ∷ steps) k f x e =
      by (found_in (is_step step) k f) refl e (λ n g later. path_put (next ∷ steps) n g x later)
    where
      by : (o : Option Found) → found_in (is_step step) k f ≡ o
          → option_and_then (λ (y : Found). found_at (next ∷ steps) (y.number + 1) y.below) o ≡ Some x
          → ((n : ℕ) (g : Forest Part) → found_at (next ∷ steps) n g ≡ Some x
          → put_at x.number n (within x.part.source added) g ≡ changed_at (next ∷ steps) last_below g)
          → put_at x.number k (within x.part.source added) f ≡ changed_at (step ∷ next ∷ steps) last_below f
      by None found later rest = absurd cc
      by (Some y) found later rest =
          let there = path_in (next ∷ steps) (y.number + 1) y.below x later in
          let a = there.0 in let b = there.1 in
          inner_put (is_step step) (changed_at (next ∷ steps) last_below) x.number (within x.part.source added) k f y found a (omega (arith, b))
          (rest (y.number + 1) y.below later)

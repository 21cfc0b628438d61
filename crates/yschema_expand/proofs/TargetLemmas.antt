-- The target of a refine among the places of a row, and the row with it changed.
use Rattle.std.proofs.Common.{◌≡◌, ℕ, zero, suc, ◌+◌, ◌<◌, Bool, true, false, cond, List, [], ◌∷◌, ◌++◌, length, Option, Some, None, refl, sym, ap, ◌∙◌, arith, subst}
use Rattle.std.specs.Prelude.{option_map, option_and_then}
use Rattle.std.specs.Option.{IfSome}
use Rattle.yspec.specs.Forest.{Forest, end, node, size, row, change_nth, below_nth}
use Rattle.yspec.specs.linking.Parts.{Part}
use Rattle.yspec.specs.linking.Prefixes.{NodeName}
use Rattle.yspec.specs.linking.Expansion.{is_step, part_at, changed_at}
use Rattle.std.specs.Prelude.{find}
use Rattle.ybase_preorder.specs.Layout.{Place, places}
use Rattle.ybase_preorder.proofs.LayoutLemmas.{length-places}
use Rattle.yschema_expand.specs.TableView.{changed_place}
use Rattle.yschema_expand.specs.Targets.{Found, found_in, found_at}

-- ---- what is taken of a number

module _ (test : ℕ → Bool) where
  -- it is taken where it passes
  abbrev pub taken : Option ℕ → Option ℕ
  taken number = option_and_then (λ n. cond (test n) (Some n) None) number

  pub taken_among : (P : ℕ → Type 0) (number result : Option ℕ) → result ≡ taken number → IfSome number P → IfSome result P
  taken_among P number result is holds = subst (λ o. IfSome o P) (sym is) (by number holds)
    where
      of_one : (n : ℕ) (b : Bool) → P n → IfSome (cond b (Some n) None) P
      of_one n true holds = holds
      of_one n false holds = tt

      by : (o : Option ℕ) → IfSome o P → IfSome (taken o) P
      by None holds = tt
      by (Some n) holds = of_one n (test n) holds

  pub taken_takes : (number result : Option ℕ) → result ≡ taken number → IfSome result (λ n. test n ≡ true)
  taken_takes number result is = subst (λ o. IfSome o (λ n. test n ≡ true)) (sym is) (by number)
    where
      of_one : (n : ℕ) (b : Bool) → test n ≡ b → IfSome (cond b (Some n) None) (λ n. test n ≡ true)
      of_one n true is = is
      of_one n false is = tt

      by : (o : Option ℕ) → IfSome (taken o) (λ n. test n ≡ true)
      by None = tt
      by (Some n) = of_one n (test n) refl

-- ---- what is found

part_found_in : (test : Part → Bool) (k : ℕ) (f : Forest Part) → option_map (λ (x : Found). x.part) (found_in test k f) ≡ find test (row f)
part_found_in test k end = refl
part_found_in test k (node p below after) = by (test p) (part_found_in test (k + suc (size below)) after)
  where
    by : (b : Bool) → option_map (λ (x : Found). x.part) (found_in test (k + suc (size below)) after) ≡ find test (row after)
        → option_map (λ (x : Found). x.part) (cond b (Some (record { number = k; part = p; below = below })) (found_in test (k + suc (size below)) after))
        ≡ cond b (Some p) (find test (row after))
    by true rest = refl
    by false rest = rest

below_found_in : (test : Part → Bool) (k : ℕ) (f : Forest Part) → option_map (λ (x : Found). x.below) (found_in test k f) ≡ below_nth test 0 f
below_found_in test k end = refl
below_found_in test k (node p below after) = by (test p) (below_found_in test (k + suc (size below)) after)
  where
    by : (b : Bool) → option_map (λ (x : Found). x.below) (found_in test (k + suc (size below)) after) ≡ below_nth test 0 after
        → option_map (λ (x : Found). x.below) (cond b (Some (record { number = k; part = p; below = below })) (found_in test (k + suc (size below)) after))
        ≡ cond b (Some below) (below_nth test 0 after)
    by true rest = refl
    by false rest = rest

pub part_found : (steps : List NodeName) (k : ℕ) (f : Forest Part) → option_map (λ (x : Found). x.part) (found_at steps k f) ≡ part_at steps f
part_found [] k f = refl
part_found (step ∷ []) k f = part_found_in (is_step step) k f
part_found (step ∷ next ∷ steps) k f =
    by (found_in (is_step step) k f) (λ n g. part_found (next ∷ steps) n g) ∙ ap (option_and_then (part_at (next ∷ steps))) (below_found_in (is_step step) k f)
  where
    by : (o : Option Found) → ((n : ℕ) (g : Forest Part) → option_map (λ (x : Found). x.part) (found_at (next ∷ steps) n g) ≡ part_at (next ∷ steps) g)
        → option_map (λ (x : Found). x.part) (option_and_then (λ (x : Found). found_at (next ∷ steps) (x.number + 1) x.below) o)
        ≡ option_and_then (part_at (next ∷ steps)) (option_map (λ (x : Found). x.below) o)
    by None rest = refl
    by (Some x) rest = rest (x.number + 1) x.below

-- where more steps lead on to from a node
abbrev pub found_from : List NodeName → Found → Option Found
found_from [] x = Some x
found_from (step ∷ steps) x = found_at (step ∷ steps) (x.number + 1) x.below

-- they lead on from the first of a name
pub found_step : (step : NodeName) (steps : List NodeName) (k : ℕ) (f : Forest Part) (x : Found) → Some x ≡ found_in (is_step step) k f
    → found_from steps x ≡ found_at (step ∷ steps) k f
found_step step [] k f x found = found
found_step step (next ∷ steps) k f x found = ap (option_and_then (λ (y : Found). found_at (next ∷ steps) (y.number + 1) y.below)) found

-- and nowhere, where there is none
pub found_nowhere : (step : NodeName) (steps : List NodeName) (k : ℕ) (f : Forest Part) → None ≡ found_in (is_step step) k f
    → None ≡ found_at (step ∷ steps) k f
found_nowhere step [] k f found = found
found_nowhere step (next ∷ steps) k f found = ap (option_and_then (λ (y : Found). found_at (next ∷ steps) (y.number + 1) y.below)) found

-- ---- where it lies

module _ (change : Part → Part) where
  length-changed : (o : ℕ) (ps : List (Place Part)) → length (changed_place o change ps) ≡ length ps
  length-changed o [] = refl
  length-changed zero (p ∷ ps) = refl
  length-changed (suc o) (p ∷ ps) = ap suc (length-changed o ps)

  skip : (ps qs : List (Place Part)) (o : ℕ) → changed_place (length ps + o) change (ps ++ qs) ≡ ps ++ changed_place o change qs
  skip [] qs o = let plain : 0 + o ≡ o = omega arith in ap (λ m. changed_place m change qs) plain
  skip (p ∷ ps) qs o =
      let next : suc (length ps) + o ≡ suc (length ps + o) = omega arith in
      ap (λ m. changed_place m change (p ∷ (ps ++ qs))) next ∙ ap (λ rest. p ∷ rest) (skip ps qs o)

  inside : (ps qs : List (Place Part)) (o : ℕ) → o < length ps → changed_place o change (ps ++ qs) ≡ changed_place o change ps ++ qs
  inside [] qs o within = absurd (omega (arith, within))
  inside (p ∷ ps) qs zero within = refl
  inside (p ∷ ps) qs (suc o) within = ap (λ rest. p ∷ rest) (inside ps qs o (omega (arith, within)))

  -- the places of one row, the first of which has a number, become those of another where the one of a number is changed
  abbrev pub Becomes : ℕ → ℕ → Forest Part → Forest Part → Type 0
  Becomes n k f g = (o : ℕ) × (n ≡ k + o) × (o < size f) × ((p : Option ℕ) → changed_place o change (places p k f) ≡ places p k g)

  behind : (n k : ℕ) (p : Part) (below after changed : Forest Part) → Becomes n (k + suc (size below)) after changed
      → Becomes n k (node p below after) (node p below changed)
  behind n k p below after changed is =
      let o = is.0 in let number = is.1 in let within = is.2 in (
        suc (size below + o),
        omega (arith, number),
        omega (arith, within),
        (λ parent.
            let inner = places (Some k) (k + 1) below in
            let count : size below + o ≡ length inner + o = ap (λ m. m + o) (sym (length-places (Some k) (k + 1) below)) in
            ap (λ rest. record { parent = parent; label = p; below = size below } ∷ rest)
            (ap (λ m. changed_place m change (inner ++ places parent (k + suc (size below)) after)) count
            ∙ (skip inner (places parent (k + suc (size below)) after) o ∙ ap (λ rest. inner ++ rest) (is.3 parent)))),
      )

  below_it : (n k : ℕ) (p : Part) (below after changed : Forest Part) → Becomes n (k + 1) below changed
      → Becomes n k (node p below after) (node p changed after)
  below_it n k p below after changed is =
      let o = is.0 in let number = is.1 in let within = is.2 in
      let inner = places (Some k) (k + 1) below in
      let same : size below ≡ size changed = sym (length-places (Some k) (k + 1) below)
      ∙ (sym (length-changed o inner) ∙ (ap length (is.3 (Some k)) ∙ length-places (Some k) (k + 1) changed)) in (
        suc o,
        omega (arith, number),
        omega (arith, within),
        (λ parent.
            let others = places parent (k + suc (size below)) after in
            ap (λ rest. record { parent = parent; label = p; below = size below } ∷ rest)
            (inside inner others o (let count = length-places (Some k) (k + 1) below in omega (arith, count, within)) ∙ ap (λ x. x ++ others) (is.3 (Some k)))
            ∙ ap (λ m. record { parent = parent; label = p; below = m } ∷ (places (Some k) (k + 1) changed ++ places parent (k + suc m) after)) same),
      )

  top_found : (test : Part → Bool) (k : ℕ) (f : Forest Part) (x : Found) → found_in test k f ≡ Some x
      → Becomes x.number k f (change_nth test 0 (λ q below after. node (change q) below after) f)
  top_found test k end x e = absurd cc
  top_found test k (node p below after) x e = by (test p) e (λ later. top_found test (k + suc (size below)) after x later)
    where
      changed : Forest Part → Forest Part
      changed f = change_nth test 0 (λ q below after. node (change q) below after) f

      by : (b : Bool) → cond b (Some (record { number = k; part = p; below = below })) (found_in test (k + suc (size below)) after) ≡ Some x
          → (found_in test (k + suc (size below)) after ≡ Some x → Becomes x.number (k + suc (size below)) after (changed after))
          → Becomes x.number k (node p below after) (cond b (node (change p) below after) (node p below (changed after)))
      by true e rest =
          let number : k ≡ x.number = cc in
          (0, omega (arith, number), omega arith, (λ parent. refl))
      by false e rest = behind x.number k p below after (changed after) (rest e)

  inner_found : (test : Part → Bool) (inner : Forest Part → Forest Part) (n k : ℕ) (f : Forest Part) (y : Found) → found_in test k f ≡ Some y
      → Becomes n (y.number + 1) y.below (inner y.below)
      → Becomes n k f (change_nth test 0 (λ q below after. node q (inner below) after) f)
  inner_found test inner n k end y e is = absurd cc
  inner_found test inner n k (node p below after) y e is = by (test p) e (λ later. inner_found test inner n (k + suc (size below)) after y later is)
    where
      changed : Forest Part → Forest Part
      changed f = change_nth test 0 (λ q below after. node q (inner below) after) f

      by : (b : Bool) → cond b (Some (record { number = k; part = p; below = below })) (found_in test (k + suc (size below)) after) ≡ Some y
          → (found_in test (k + suc (size below)) after ≡ Some y → Becomes n (k + suc (size below)) after (changed after))
          → Becomes n k (node p below after) (cond b (node p (inner below) after) (node p below (changed after)))
      by true e rest =
          let same : record { number = k; part = p; below = below } ≡ y = cc in
          below_it n k p below after (inner below) (subst (λ (z : Found). Becomes n (z.number + 1) z.below (inner z.below)) (sym same) is)
      by false e rest = behind n k p below after (changed after) (rest e)

  pub path_found : (steps : List NodeName) (k : ℕ) (f : Forest Part) (x : Found) → found_at steps k f ≡ Some x
      → Becomes x.number k f (changed_at steps (λ q below after. node (change q) below after) f)
  path_found [] k f x e = absurd cc
  path_found (step ∷ []) k f x e = top_found (is_step step) k f x e
  path_found (step ∷ next ∷ steps) k f x e = by (found_in (is_step step) k f) refl e (λ n g later. path_found (next ∷ steps) n g x later)
    where
      by : (o : Option Found) → found_in (is_step step) k f ≡ o
          → option_and_then (λ (y : Found). found_at (next ∷ steps) (y.number + 1) y.below) o ≡ Some x
          → ((n : ℕ) (g : Forest Part) → found_at (next ∷ steps) n g ≡ Some x → Becomes x.number n g (changed_at (next ∷ steps) (λ q below after. node (change q) below after) g))
          → Becomes x.number k f (changed_at (step ∷ next ∷ steps) (λ q below after. node (change q) below after) f)
      by None found later rest = absurd cc
      by (Some y) found later rest = inner_found (is_step step) (changed_at (next ∷ steps) (λ q below after. node (change q) below after)) x.number k f y found
          (rest (y.number + 1) y.below later)

  -- and with others before them
  pub places_changed : (before : List (Place Part)) (p : Option ℕ) (n k : ℕ) (f g : Forest Part) → length before ≡ k → Becomes n k f g
      → changed_place n change (before ++ places p k f) ≡ before ++ places p k g
  places_changed before p n k f g count is =
      let o = is.0 in
      let number : n ≡ length before + o = is.1 ∙ ap (λ m. m + o) (sym count) in
      ap (λ m. changed_place m change (before ++ places p k f)) number ∙ (skip before (places p k f) o ∙ ap (λ rest. before ++ rest) (is.3 p))

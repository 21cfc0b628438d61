-- A target among the nodes of a set is found among them once they are planned.
use Rattle.std.proofs.Common.{◌≡◌, ℕ, suc, ◌+◌, ◌<◌, ◌≤◌, Bool, true, false, cond, List, [], ◌∷◌, ◌++◌, Option, Some, None, refl, sym, ap, ◌∙◌, subst, inl, inr, arith, append_assoc, append-nil}
use Rattle.std.specs.Prelude.{⊤, ◌&&◌, find, is_some, option_map, option_and_then}
use Rattle.std.specs.List.{Contains}
use Rattle.std.specs.Option.{option_map_or}
use Rattle.std.proofs.lemmas.Bool.{false≢true, ne_eqb}
use Rattle.std.proofs.lemmas.Bool.Decides.{Decides-eqb}
use Rattle.yspec.specs.Forest.{Forest, end, node, row, size, preorder, below_nth}
use Rattle.yspec.specs.linking.Source.{Source}
use Rattle.yspec.specs.linking.Prefixes.{NodeName}
use Rattle.yspec.specs.linking.Parts.{Part}
use Rattle.yspec.specs.linking.Expansion.{is_step, part_at}
use Rattle.yspec.specs.linking.Planned.{Planned, Plan, Around, around_below, at_top, planned, planned_node, nodes_of, way, same_number, is_called}
use Rattle.yspec.specs.linking.Augments.{Augment, augmented, augments_of, may_take, target_steps}
use Rattle.yspec.specs.linking.Compiling.{plan_of, target_found, last}
use Rattle.yspec_laws.proofs.KeptLemmas.{each_kept}

-- ---- lists

abbrev Each : {A : Type 0} → (A → Type 0) → List A → Type 0
Each P [] = ⊤
Each P (x ∷ xs) = P x × Each P xs

each_both : {A : Type 0} (P : A → Type 0) (xs ys : List A) → Each P xs → Each P ys → Each P (xs ++ ys)
each_both P [] ys one two = two
each_both P (x ∷ xs) ys one two = (one.0, each_both P xs ys one.1 two)

each_more : {A : Type 0} (P Q : A → Type 0) → ((x : A) → Q x → P x) → (xs : List A) → Each Q xs → Each P xs
each_more P Q weaker [] all = tt
each_more P Q weaker (x ∷ xs) all = (weaker x all.0, each_more P Q weaker xs all.1)

-- what fails in a beginning is looked for behind it
found_behind : {A : Type 0} (test : A → Bool) (xs ys : List A) → Each (λ x. test x ≡ false) xs → find test (xs ++ ys) ≡ find test ys
found_behind test [] ys fails = refl
found_behind test (x ∷ xs) ys fails = ap (λ b. cond b (Some x) (find test (xs ++ ys))) fails.0 ∙ found_behind test xs ys fails.1

-- ---- parents

abbrev ParentBelow : ℕ → Planned → Type 0
ParentBelow n p = (m : ℕ) → p.parent ≡ Some m → m < n

abbrev ParentFrom : ℕ → Planned → Type 0
ParentFrom n p = (m : ℕ) × (p.parent ≡ Some m) × (n ≤ m)

some_once : (m n : ℕ) → Some m ≡ Some n → m ≡ n
some_once m n e = ap (λ (o : Option ℕ). option_map_or (λ k. k) o m) e

-- parents come before their children
parents_below : (k : ℕ) (around : Around) (f : Forest Part) → ((m : ℕ) → around.parent ≡ Some m → m < k)
    → Each (ParentBelow (k + size f)) (preorder (planned k around f))
unfolding planned
parents_below k around end low = tt
parents_below k around (node p below after) low = (
  (λ m is. let lower = low m is in omega (arith, lower)),
  each_both (ParentBelow (k + suc (size below + size after))) (preorder (planned (k + 1) (around_below k around p) below)) (preorder (planned (k + suc (size below)) around after))
      (each_more (ParentBelow (k + suc (size below + size after))) (ParentBelow ((k + 1) + size below)) (λ q is m e. let lower = is m e in omega (arith, lower))
      (preorder (planned (k + 1) (around_below k around p) below))
      (parents_below (k + 1) (around_below k around p) below (λ m is. let same = some_once k m is in omega (arith, same))))
      (each_more (ParentBelow (k + suc (size below + size after))) (ParentBelow ((k + suc (size below)) + size after)) (λ q is m e. let lower = is m e in omega (arith, lower))
      (preorder (planned (k + suc (size below)) around after))
      (parents_below (k + suc (size below)) around after (λ m is. let lower = low m is in omega (arith, lower)))),
)

-- and none stands higher than the node around
parents_from : (k j : ℕ) (around : Around) (f : Forest Part) → around.parent ≡ Some j → j ≤ k → Each (ParentFrom j) (preorder (planned k around f))
unfolding planned
parents_from k j around end is low = tt
parents_from k j around (node p below after) is low = (
  (j, is, omega arith),
  each_both (ParentFrom j) (preorder (planned (k + 1) (around_below k around p) below)) (preorder (planned (k + suc (size below)) around after))
      (each_more (ParentFrom j) (ParentFrom k) (λ q at. let lower = at.2 in (at.0, at.1, omega (arith, lower, low)))
      (preorder (planned (k + 1) (around_below k around p) below)) (parents_from (k + 1) k (around_below k around p) below refl (omega arith)))
      (parents_from (k + suc (size below)) j around after is (omega (arith, low))),
)

-- ---- a child

abbrev is_child : Option ℕ → NodeName → Planned → Bool
is_child parent name p = same_number parent p.parent && is_called name p

same_parent : (o : Option ℕ) → same_number o o ≡ true
same_parent None = refl
same_parent (Some n) = (Decides-eqb n n).1 refl

other_parent : (o : Option ℕ) (k : ℕ) (name : NodeName) → ((m : ℕ) → o ≡ Some m → m < k) → (p : Planned) → ParentFrom k p → is_child o name p ≡ false
other_parent None k name low p from = ap (λ q. same_number None q && is_called name p) from.1
other_parent (Some m) k name low p from = ap (λ q. same_number (Some m) q && is_called name p) from.1
    ∙ ap (λ b. b && is_called name p) (ne_eqb m from.0 (λ same. let lower = low m refl in let above = from.2 in absurd (omega (arith, same, lower, above))))

no_parent : (n : ℕ) (name : NodeName) (p : Planned) → ParentBelow n p → is_child (Some n) name p ≡ false
no_parent n name p low = by p.parent refl
  where
    by : (o : Option ℕ) → p.parent ≡ o → is_child (Some n) name p ≡ false
    by None is = ap (λ q. same_number (Some n) q && is_called name p) is
    by (Some m) is = ap (λ q. same_number (Some n) q && is_called name p) is
        ∙ ap (λ b. b && is_called name p) (ne_eqb n m (λ same. let lower = low m is in absurd (omega (arith, same, lower))))

-- it is found, with what stands below it behind nodes whose parents come before it
record IsChild (whole : List Planned) (parent : Option ℕ) (name : NodeName) (below : Forest Part) : Type 0 where
  it : Planned
  found : find (is_child parent name) whole ≡ Some it
  around : Around
  under : around.parent ≡ Some it.number
  before : List Planned
  behind : List Planned
  parts : whole ≡ before ++ (preorder (planned (it.number + 1) around below) ++ behind)
  earlier : Each (ParentBelow it.number) before

-- one list cut behind a node, and behind what stands below it
cut_behind : (pre under behind post : List Planned) (p : Planned) → pre ++ (p ∷ ((under ++ behind) ++ post)) ≡ (pre ++ (p ∷ [])) ++ (under ++ (behind ++ post))
cut_behind pre under behind post p = ap (λ l. pre ++ (p ∷ l)) (append_assoc under behind post) ∙ sym (append_assoc pre (p ∷ []) (under ++ (behind ++ post)))

cut_after : (pre under behind post : List Planned) (p : Planned) → pre ++ (p ∷ ((under ++ behind) ++ post)) ≡ (pre ++ (p ∷ under)) ++ (behind ++ post)
cut_after pre under behind post p = ap (λ l. pre ++ (p ∷ l)) (append_assoc under behind post) ∙ sym (append_assoc pre (p ∷ under) (behind ++ post))

child_found : (whole pre post : List Planned) (k : ℕ) (around : Around) (f : Forest Part) (name : NodeName) (b : Forest Part)
    → whole ≡ pre ++ (preorder (planned k around f) ++ post) → Each (ParentBelow k) pre → Each (λ p. is_child around.parent name p ≡ false) pre
    → ((m : ℕ) → around.parent ≡ Some m → m < k) → below_nth (is_step name) 0 f ≡ Some b → IsChild whole around.parent name b
unfolding planned
child_found whole pre post k around end name b whole_is lower fails low e = absurd cc
child_found whole pre post k around (node l below after) name b whole_is lower fails low e =
    by (is_step name l) refl e (child_found whole (pre ++ (own ∷ under)) post (k + suc (size below)) around after name b)
  where
    own : Planned
    own = planned_node k around l

    under : List Planned
    under = preorder (planned (k + 1) (around_below k around l) below)

    behind : List Planned
    behind = preorder (planned (k + suc (size below)) around after)

    lower_on : Each (ParentBelow (k + suc (size below))) (pre ++ (own ∷ under))
    lower_on = each_both (ParentBelow (k + suc (size below))) pre (own ∷ under)
        (each_more (ParentBelow (k + suc (size below))) (ParentBelow k) (λ q is m at. let less = is m at in omega (arith, less)) pre lower) (
          (λ m at. let less = low m at in omega (arith, less)),
          each_more (ParentBelow (k + suc (size below))) (ParentBelow ((k + 1) + size below)) (λ q is m at. let less = is m at in omega (arith, less)) under
              (parents_below (k + 1) (around_below k around l) below (λ m at. let same = some_once k m at in omega (arith, same))),
        )

    fails_on : is_step name l ≡ false → Each (λ p. is_child around.parent name p ≡ false) (pre ++ (own ∷ under))
    fails_on other = each_both (λ p. is_child around.parent name p ≡ false) pre (own ∷ under) fails (
      ap (λ b. b && is_step name l) (same_parent around.parent) ∙ other,
      each_more (λ p. is_child around.parent name p ≡ false) (ParentFrom k) (other_parent around.parent k name low) under
          (parents_from (k + 1) k (around_below k around l) below refl (omega arith)),
    )

    by : (c : Bool) → is_step name l ≡ c → cond c (Some below) (below_nth (is_step name) 0 after) ≡ Some b
        → (whole ≡ (pre ++ (own ∷ under)) ++ (behind ++ post) → Each (ParentBelow (k + suc (size below))) (pre ++ (own ∷ under))
        → Each (λ p. is_child around.parent name p ≡ false) (pre ++ (own ∷ under)) → ((m : ℕ) → around.parent ≡ Some m → m < k + suc (size below))
        → below_nth (is_step name) 0 after ≡ Some b → IsChild whole around.parent name b)
        → IsChild whole around.parent name b
    by true is e rest = subst (λ x. IsChild whole around.parent name x) (let same : below ≡ b = cc in same) (record {
      it = own;
      found = ap (find (is_child around.parent name)) whole_is
          ∙ (found_behind (is_child around.parent name) pre (own ∷ ((under ++ behind) ++ post)) fails
          ∙ ap (λ c. cond c (Some own) (find (is_child around.parent name) ((under ++ behind) ++ post))) (ap (λ b. b && is_step name l) (same_parent around.parent) ∙ is));
      around = around_below k around l;
      under = refl;
      before = pre ++ (own ∷ []);
      behind = behind ++ post;
      parts = whole_is ∙ cut_behind pre under behind post own;
      earlier = each_both (ParentBelow k) pre (own ∷ []) lower (low, tt);
    })
    by false is e rest = rest (whole_is ∙ cut_after pre under behind post own) lower_on (fails_on is)
        (λ m at. let less = low m at in omega (arith, less)) e

-- ---- a way

-- a node that is found has a row below it
row_found : (test : Part → Bool) (f : Forest Part) (p : Part) → find test (row f) ≡ Some p → (b : Forest Part) × (below_nth test 0 f ≡ Some b)
row_found test end p e = absurd cc
row_found test (node l below after) p e = by (test l) e (row_found test after p)
  where
    by : (c : Bool) → cond c (Some l) (find test (row after)) ≡ Some p → (find test (row after) ≡ Some p → (b : Forest Part) × (below_nth test 0 after ≡ Some b))
        → (b : Forest Part) × (cond c (Some below) (below_nth test 0 after) ≡ Some b)
    by true e rest = (below, refl)
    by false e rest = rest e

module _ (plan : Plan) where
  way_found : (steps : List NodeName) (pre post : List Planned) (k : ℕ) (around : Around) (f : Forest Part) (p : Part)
      → nodes_of plan ≡ pre ++ (preorder (planned k around f) ++ post) → Each (ParentBelow k) pre
      → ((name : NodeName) → Each (λ q. is_child around.parent name q ≡ false) pre) → ((m : ℕ) → around.parent ≡ Some m → m < k) → part_at steps f ≡ Some p
      → (first : Planned) × (more : List Planned) × (way plan around.parent steps ≡ Some (first ∷ more))
  way_found [] pre post k around f p is lower fails low e = absurd cc
  way_found (step ∷ []) pre post k around f p is lower fails low e =
      let b = row_found (is_step step) f p e in
      let c = child_found (nodes_of plan) pre post k around f step b.0 is lower (fails step) low b.1 in
      (c.it, [], ap (option_and_then (λ q. option_map (λ more. q ∷ more) (way plan (Some q.number) []))) c.found)
  way_found (step ∷ next ∷ steps) pre post k around f p is lower fails low e = by (below_nth (is_step step) 0 f) refl e (way_found (next ∷ steps))
    where
      by : (o : Option (Forest Part)) → below_nth (is_step step) 0 f ≡ o → option_and_then (part_at (next ∷ steps)) o ≡ Some p
          → ((pre post : List Planned) (k : ℕ) (around : Around) (f : Forest Part) (p : Part)
          → nodes_of plan ≡ pre ++ (preorder (planned k around f) ++ post) → Each (ParentBelow k) pre
          → ((name : NodeName) → Each (λ q. is_child around.parent name q ≡ false) pre) → ((m : ℕ) → around.parent ≡ Some m → m < k) → part_at (next ∷ steps) f ≡ Some p
          → (first : Planned) × (more : List Planned) × (way plan around.parent (next ∷ steps) ≡ Some (first ∷ more)))
          → (first : Planned) × (more : List Planned) × (way plan around.parent (step ∷ next ∷ steps) ≡ Some (first ∷ more))
      by None at e inner = absurd cc
      by (Some b) at e inner =
          let c = child_found (nodes_of plan) pre post k around f step b is lower (fails step) low at in
          let n = c.it.number in
          let rest = inner c.before c.behind (n + 1) c.around b p c.parts
          (each_more (ParentBelow (n + 1)) (ParentBelow n) (λ q less m there. let l = less m there in omega (arith, l)) c.before c.earlier)
          (λ name. subst (λ o. Each (λ q. is_child o name q ≡ false) c.before) (sym c.under)
          (each_more (λ q. is_child (Some n) name q ≡ false) (ParentBelow n) (no_parent n name) c.before c.earlier))
          (λ m there. let same = some_once n m (sym c.under ∙ there) in omega (arith, same)) e in
          let onward = subst (λ o. way plan o (next ∷ steps) ≡ Some (rest.0 ∷ rest.1)) c.under rest.2 in (
            c.it,
            rest.0 ∷ rest.1,
            ap (option_and_then (λ q. option_map (λ more. q ∷ more) (way plan (Some q.number) (next ∷ steps)))) c.found
                ∙ ap (option_map (λ more. c.it ∷ more)) onward,
          )

last_there : (p : Planned) (ps : List Planned) → is_some (last (p ∷ ps)) ≡ true
last_there p [] = refl
last_there p (q ∷ ps) = last_there q ps

target_there : (modules : Forest Source) (a : Augment) (p : Part) → part_at (target_steps modules a) (augmented modules).0 ≡ Some p
    → is_some (target_found (plan_of modules) a) ≡ true
target_there modules a p e =
    let nodes = preorder (planned 0 at_top (augmented modules).0) in
    let found = way_found (plan_of modules) (target_steps modules a) [] [] 0 at_top (augmented modules).0 p (sym (append-nil nodes)) tt (λ name. tt) (λ m there. absurd cc) e in
    ap (λ o. is_some (option_and_then last o)) found.2 ∙ last_there found.0 found.1

pub each_listed : (modules : Forest Source) (a : Augment) → (augmented modules).1 ≡ [] → Contains (augments_of modules) a
    → is_some (target_found (plan_of modules) a) ≡ true
each_listed modules a none at = elim (each_kept modules a at) [
  | inl left ↦ absurd (none_there (subst (λ l. Contains l a) none left))
  | inr ready ↦ by (part_at (target_steps modules a) (augmented modules).0) refl ready
]
  where
    none_there : Contains [] a → ⊥
    none_there there = let low = there.1 in omega (arith, low)

    by : (o : Option Part) → part_at (target_steps modules a) (augmented modules).0 ≡ o → option_map_or (λ p. may_take p a.given) o false ≡ true
        → is_some (target_found (plan_of modules) a) ≡ true
    by None e is = absurd (false≢true is)
    by (Some p) e is = target_there modules a p e

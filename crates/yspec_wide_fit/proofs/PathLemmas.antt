-- In the schema of parts that are numbered a path of a `unique` has no more steps than the schema has levels.
use Rattle.std.proofs.Common.{◌≡◌, ℕ, suc, ◌+◌, ◌≤◌, ◌<◌, Bool, true, false, cond, eqb, ltb, max, List, [], ◌∷◌, ◌++◌, map, length, Option, Some, None, refl, sym, ap, ◌∙◌, subst, arith}
use Rattle.std.specs.Prelude.{◌&&◌, find, option_map, option_and_then}
use Rattle.std.specs.List.{AllByRecursion}
use Rattle.std.specs.Option.{option_map_or}
use Rattle.std.proofs.lemmas.Bool.{and_parts, eqb-true, eqb-false, ltb-true, ltb-false}
use Rattle.std.proofs.lemmas.List.{length-map}
use Rattle.std.proofs.lemmas.Option.{same_Some, none-some}
use Rattle.yspec.specs.Forest.{Forest, end, node, size, levels, preorder, relabelled}
use Rattle.yspec.specs.linking.Keyword.{Keyword, list_word}
use Rattle.yspec.specs.linking.Parts.{Part}
use Rattle.yspec.specs.linking.Prefixes.{NodeName}
use Rattle.yspec.specs.linking.Planned.{Planned, Plan, Around, at_top, around_below, planned, same_number, is_called, nodes_of, child_called, way}
use Rattle.yspec.specs.linking.SchemaNodes.{leaf_path, number_in}
use Rattle.yspec.proofs.LinkingProofs.LinkedLemmas.{relabelled-levels}
use Rattle.yspec_wide.specs.Language.{Language}
use Rattle.yspec_wide.specs.Types.{schema_node_in, schema_nodes_in}
use Rattle.yspec_fit.specs.Fit.{Each, PathsWithin}
use Rattle.yspec_wide_fit.proofs.NodeLemmas.{kind_for}

-- ---- how deep each number stands

-- the level of a number in parts that are numbered from one on
depth_in : ℕ → ℕ → Forest Part → ℕ → ℕ
depth_in next level end i = 0
depth_in next level (node p below after) i =
    cond (eqb i next) level (cond (ltb i (next + suc (size below))) (depth_in (next + 1) (suc level) below i) (depth_in (next + suc (size below)) level after i))

first_depth : (next level : ℕ) (p : Part) (below after : Forest Part) → depth_in next level (node p below after) next ≡ level
unfolding depth_in
first_depth next level p below after = by (eqb next next) refl
  where
    by : (b : Bool) → eqb next next ≡ b
        → cond b level (cond (ltb next (next + suc (size below))) (depth_in (next + 1) (suc level) below next) (depth_in (next + suc (size below)) level after next)) ≡ level
    by true is = refl
    by false is = absurd (eqb-false next next is refl)

other_depth : (next level : ℕ) (p : Part) (below after : Forest Part) (i : ℕ) (b c : Bool) → eqb i next ≡ b → b ≡ false → ltb i (next + suc (size below)) ≡ c
    → depth_in next level (node p below after) i ≡ cond c (depth_in (next + 1) (suc level) below i) (depth_in (next + suc (size below)) level after i)
unfolding depth_in
other_depth next level p below after i b c first not_first there =
    ap (λ x. cond x level (cond (ltb i (next + suc (size below))) (depth_in (next + 1) (suc level) below i) (depth_in (next + suc (size below)) level after i))) (first ∙ not_first)
    ∙ ap (λ x. cond x (depth_in (next + 1) (suc level) below i) (depth_in (next + suc (size below)) level after i)) there

not_equal : (i next : ℕ) (b : Bool) → eqb i next ≡ b → next < i → b ≡ false
not_equal i next true is less = absurd (let e = eqb-true i next is in omega (arith, e, less))
not_equal i next false is less = refl

is_less : (i n : ℕ) (b : Bool) → ltb i n ≡ b → i < n → b ≡ true
is_less i n true is less = refl
is_less i n false is less = absurd (let e = ltb-false i n is in omega (arith, e, less))

not_less : (i n : ℕ) (b : Bool) → ltb i n ≡ b → n ≤ i → b ≡ false
not_less i n true is more = absurd (let e = ltb-true i n is in omega (arith, e, more))
not_less i n false is more = refl

inner_depth : (next level : ℕ) (p : Part) (below after : Forest Part) (i : ℕ) → next < i → i < next + suc (size below)
    → depth_in next level (node p below after) i ≡ depth_in (next + 1) (suc level) below i
inner_depth next level p below after i behind within =
    other_depth next level p below after i _ true refl (not_equal i next _ refl behind) (is_less i (next + suc (size below)) _ refl within)

later_depth : (next level : ℕ) (p : Part) (below after : Forest Part) (i : ℕ) → next + suc (size below) ≤ i
    → depth_in next level (node p below after) i ≡ depth_in (next + suc (size below)) level after i
later_depth next level p below after i behind =
    other_depth next level p below after i _ false refl (not_equal i next _ refl (omega (arith, behind))) (not_less i (next + suc (size below)) _ refl behind)

-- ---- steps lead one level down each

module _ (depth : ℕ → ℕ) (most : ℕ) where
  abbrev Leads : Planned → Type 0
  Leads q = ((m : ℕ) → q.parent ≡ Some m → suc (depth m) ≡ depth q.number) × (depth q.number ≤ most)

  all_lead : (next level : ℕ) (around : Around) (f : Forest Part) → ((i : ℕ) → next ≤ i → i < next + size f → depth i ≡ depth_in next level f i)
      → ((m : ℕ) → around.parent ≡ Some m → suc (depth m) ≡ level) → levels f + level ≤ suc most → Each Leads (planned next around f)
  unfolding planned
  all_lead next level around end same above few = tt
  all_lead next level around (node p below after) same above few =
      let here : depth next ≡ level = same next (omega arith) (omega arith) ∙ first_depth next level p below after in (
        (λ m is. above m is ∙ sym here, omega (arith, here, few)),
        all_lead (next + 1) (suc level) (around_below next around p) below
            (λ i from to. same i (omega (arith, from)) (omega (arith, to)) ∙ inner_depth next level p below after i (omega (arith, from)) (omega (arith, to)))
            (λ m is. ap (λ k. suc (depth k)) (sym (same_Some next m is)) ∙ ap suc here) (omega (arith, few)),
        all_lead (next + suc (size below)) level around after
            (λ i from to. same i (omega (arith, from)) (omega (arith, to)) ∙ later_depth next level p below after i from) above (omega (arith, few)),
      )

all_joined : {A : Type 0} (P : A → Type 0) (xs ys : List A) → AllByRecursion P xs → AllByRecursion P ys → AllByRecursion P (xs ++ ys)
all_joined P [] ys first second = second
all_joined P (x ∷ xs) ys first second = (first.0, all_joined P xs ys first.1 second)

all_listed : {L : Type 0} (P : L → Type 0) (f : Forest L) → Each P f → AllByRecursion P (preorder f)
all_listed P end each = tt
all_listed P (node l below after) each = (each.0, all_joined P (preorder below) (preorder after) (all_listed P below each.1) (all_listed P after each.2))

found : {A : Type 0} (P : A → Type 0) (test : A → Bool) (xs : List A) (x : A) → AllByRecursion P xs → find test xs ≡ Some x → P x × (test x ≡ true)
found P test [] x all is = absurd cc
found P test (y ∷ ys) x all is = by (test y) refl is (found P test ys x all.1)
  where
    by : (b : Bool) → test y ≡ b → cond b (Some y) (find test ys) ≡ Some x → (find test ys ≡ Some x → P x × (test x ≡ true)) → P x × (test x ≡ true)
    by true here e rest = let same = same_Some y x e in (subst P same all.0, subst (λ z. test z ≡ true) same here)
    by false here e rest = rest e

parent_is : (m : ℕ) (o : Option ℕ) → same_number (Some m) o ≡ true → o ≡ Some m
parent_is m None same = absurd cc
parent_is m (Some k) same = ap Some (sym (eqb-true m k same))

module _ (plan : Plan) (depth : ℕ → ℕ) (most : ℕ) (each : Each (Leads depth most) plan.nodes) where
  called : (m : ℕ) (name : NodeName) (q : Planned) → child_called plan (Some m) name ≡ Some q → (suc (depth m) ≡ depth q.number) × (depth q.number ≤ most)
  called m name q is =
      let at = found (Leads depth most) (λ (p : Planned). same_number (Some m) p.parent && is_called name p) (nodes_of plan) q (all_listed (Leads depth most) plan.nodes each) is in
      (at.0.0 m (parent_is m q.parent (and_parts (same_number (Some m) q.parent) (is_called name q) at.1).0), at.0.1)

  long : (names : List NodeName) (m : ℕ) (ps : List Planned) → way plan (Some m) names ≡ Some ps → length ps + depth m ≤ max most (depth m)
  long [] m ps is = let e : 0 ≡ length ps = ap (λ (o : Option (List Planned)). option_map_or length o 0) is in omega (arith, e)
  long (name ∷ names) m ps is = by (child_called plan (Some m) name) refl (λ k qs more. long names k qs more) is
    where
      by : (o : Option Planned) → child_called plan (Some m) name ≡ o
          → ((k : ℕ) (qs : List Planned) → way plan (Some k) names ≡ Some qs → length qs + depth k ≤ max most (depth k))
          → option_and_then (λ (p : Planned). option_map (λ more. p ∷ more) (way plan (Some p.number) names)) o ≡ Some ps → length ps + depth m ≤ max most (depth m)
      by None found others is = absurd (none-some ps is)
      by (Some q) found others is = go (way plan (Some q.number) names) refl is
        where
          go : (o : Option (List Planned)) → way plan (Some q.number) names ≡ o → option_map (λ more. q ∷ more) o ≡ Some ps → length ps + depth m ≤ max most (depth m)
          go None more is = absurd (none-some ps is)
          go (Some qs) more is =
              let e : suc (length qs) ≡ length ps = ap (λ (o : Option (List Planned)). option_map_or length o 0) is in
              let step = called m name q found in
              let next = step.0 in
              let deep = step.1 in
              let rest = others q.number qs more in
              omega (arith, e, next, deep, rest)

  path_within : (names : List NodeName) (m : ℕ) → length (leaf_path (way plan (Some m) names)) ≤ most
  path_within names m = by (way plan (Some m) names) refl
    where
      by : (o : Option (List Planned)) → way plan (Some m) names ≡ o → length (leaf_path o) ≤ most
      by None is = omega arith
      by (Some ps) is = let l = long names m ps is in let e = length-map ps number_in in omega (arith, l, e)

-- ---- the kinds of schema nodes

mapped_twice : {A B C : Type 0} (P : C → Type 0) (f : B → C) (g : A → B) (xs : List A) → ((x : A) → P (f (g x))) → AllByRecursion P (map f (map g xs))
mapped_twice P f g [] each = tt
mapped_twice P f g (x ∷ xs) each = (each x, mapped_twice P f g xs each)

module _ (language : Language) (plan : Plan) (most : ℕ) (within : (names : List NodeName) (m : ℕ) → length (leaf_path (way plan (Some m) names)) ≤ most) where
  kind_within : (p : Planned) (k : Keyword) → PathsWithin most (kind_for language plan p k)
  kind_within p list_word = mapped_twice _ _ _ _ (λ s. mapped_twice _ _ _ _ (λ names. within _ p.number))
  kind_within p k = tt

  nodes_within : (f : Forest Planned) → Each (λ n. PathsWithin most n.kind) (relabelled (schema_node_in language plan) f)
  nodes_within end = tt
  nodes_within (node p below after) = (kind_within p p.part.source.keyword, nodes_within below, nodes_within after)

planned-levels : (next : ℕ) (around : Around) (f : Forest Part) → levels (planned next around f) ≡ levels f
unfolding planned
planned-levels next around end = refl
planned-levels next around (node p below after) =
    let inner = planned-levels (next + 1) (around_below next around p) below in
    let rest = planned-levels (next + suc (size below)) around after in omega (arith, inner, rest)

pub paths_within : (language : Language) (plan : Plan) (f : Forest Part) → planned 0 at_top f ≡ plan.nodes
    → Each (λ n. PathsWithin (levels (schema_nodes_in language plan)) n.kind) (schema_nodes_in language plan)
paths_within language plan f is =
    let most = levels f in
    let depth = depth_in 0 1 f in
    let each : Each (Leads depth most) plan.nodes =
    subst (Each (Leads depth most)) is (all_lead depth most 0 1 at_top f (λ i from to. refl) (λ m is. absurd (none-some m is)) (omega arith)) in
    let same : levels (schema_nodes_in language plan) ≡ most =
    relabelled-levels (schema_node_in language plan) plan.nodes ∙ (ap levels (sym is) ∙ planned-levels 0 at_top f) in
    subst (λ (k : ℕ). Each (λ n. PathsWithin k n.kind) (schema_nodes_in language plan)) (sym same)
    (nodes_within language plan most (path_within plan depth most each) plan.nodes)

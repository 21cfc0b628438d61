-- What the statements of a list name, and whether a number comes twice.
use Rattle.std.proofs.Common.{◌≡◌, ℕ, Bool, true, false, not, cond, ◌&&◌, ◌||◌, List, [], ◌∷◌, ◌++◌, map, Option, Some, None, refl, sym, ap, ap₂, ◌∙◌, arith}
use Rattle.std.specs.Prelude.{◌==◌, option_and_then, option_map, unwrap_or}
use Rattle.std.specs.List.{cons_option, filter_map, flat_map, list_all, list_any}
use Rattle.std.specs.Option.{option_map_or}
use Rattle.std.specs.Ordering.{is_eq, nat_cmp}
use Rattle.std.specs.BTreeSet.{BTreeSet, Updates, contains}
use Rattle.std.proofs.lemmas.Bool.Decides.{nat_tests}
use Rattle.std.proofs.lemmas.List.{append_assoc, map-append}
use Rattle.yspec.specs.linking.Keyword.{key_word, container_word}
use Rattle.yspec.specs.linking.Planned as spec
use Rattle.yspec.specs.linking.Planned.{Planned, child_called, is_a, is_leaf}
use Rattle.yspec.specs.linking.SchemaNodes.{key_names, key_numbers, nodes_named}
use Rattle.yspec.specs.linking.Arguments.{key_of}
use Rattle.yspec.specs.linking.NodeBreaks.{has_twice, leaf_behind, is_key_leaf, is_wrong_key}
use Rattle.yspec.specs.linking.Prefixes.{NodeName}
use Rattle.yspec.specs.linking.Source.{argument_in, all_with}
use Rattle.yschema_plan.specs.NodesView.{node_view}
use Rattle.yschema_plan.specs.declared.nodes.PlanNode.{PlanNode}
use Rattle.yschema_resolve.specs.TuplesView.{children_by}

map-flat : {X A B : Type 0} (f : A → B) (g : X → List A) (xs : List X) → map f (flat_map g xs) ≡ flat_map (λ x. map f (g x)) xs
map-flat f g [] = refl
map-flat f g (x ∷ xs) = map-append f (g x) (flat_map g xs) ∙ ap (λ rest. map f (g x) ++ rest) (map-flat f g xs)

-- each name of a key gives the child that it names
pub children_are : (plan : spec.Plan) (p : Planned) → children_by plan p ≡ map (child_called plan (Some p.number)) (key_names plan p)
children_are plan p =
    sym (map-flat (child_called plan (Some p.number)) (λ s. nodes_named plan p s (unwrap_or (key_of (argument_in s)) [])) (all_with key_word p.part.own))

-- ---- those that are found

pub found_among : {X A B : Type 0} (h : A → Option B) (f : X → Option B) (ys : List A) (xs : List X) → map h ys ≡ map f xs → filter_map h ys ≡ filter_map f xs
found_among h f ys xs same = sym (among h ys) ∙ (ap (filter_map (λ o. o)) same ∙ among f xs)
  where
    among : {C D : Type 0} (g : C → Option D) (cs : List C) → filter_map (λ o. o) (map g cs) ≡ filter_map g cs
    among g [] = refl
    among g (c ∷ cs) = ap (cons_option (g c)) (among g cs)

pub all_among : {X A B : Type 0} (h : A → Option B) (f : X → Option B) (test : B → Bool) (ys : List A) (xs : List X) → map h ys ≡ map f xs
    → list_all (λ o. option_map_or test o false) (map h ys) ≡ list_all (λ x. option_map_or test (f x) false) xs
all_among h f test ys xs same = ap (list_all (λ o. option_map_or test o false)) same ∙ among f xs test
  where
    among : {C D : Type 0} (g : C → Option D) (cs : List C) (t : D → Bool) → list_all (λ o. option_map_or t o false) (map g cs) ≡ list_all (λ c. option_map_or t (g c) false) cs
    among g [] t = refl
    among g (c ∷ cs) t = ap (λ b. option_map_or t (g c) false && b) (among g cs t)

-- ---- numbers that come twice

same_key : (a b : ℕ) → is_eq (nat_cmp a b) ≡ (b == a)
same_key a b = grind (arith, nat_tests)

-- whether one of those that are met comes, or one that comes twice
abbrev pub twice_from : BTreeSet ℕ → List ℕ → Bool
twice_from met ns = list_any (contains nat_cmp met) ns || has_twice ns

turned : (a b c : Bool) → ((a || b) || c) ≡ (b || (a || c))
turned true true c = refl
turned true false c = refl
turned false true c = refl
turned false false c = refl

any_joined : (f g h : ℕ → Bool) → ((n : ℕ) → h n ≡ (f n || g n)) → (ns : List ℕ) → list_any h ns ≡ (list_any f ns || list_any g ns)
any_joined f g h is [] = refl
any_joined f g h is (n ∷ ns) = ap₂ (λ a b. a || b) (is n) (any_joined f g h is ns) ∙ by (f n) (g n) (list_any f ns) (list_any g ns)
  where
    by : (a b c d : Bool) → ((a || b) || (c || d)) ≡ ((a || c) || (b || d))
    by true b c d = refl
    by false true true d = refl
    by false true false d = refl
    by false false c d = refl

or_cond : (b c : Bool) → cond b true c ≡ (b || c)
or_cond true c = refl
or_cond false c = refl

pub twice_more : (met more : BTreeSet ℕ) (n : ℕ) (ns : List ℕ) → Updates nat_cmp met more n true → true ≡ not (contains nat_cmp met n)
    → twice_from more ns ≡ twice_from met (n ∷ ns)
twice_more met more n ns updates new =
    ap (λ b. b || has_twice ns) (any_joined (λ m. m == n) (contains nat_cmp met) (contains nat_cmp more)
    (λ m. updates.0 m ∙ (or_cond (is_eq (nat_cmp n m)) (contains nat_cmp met m) ∙ ap (λ b. b || contains nat_cmp met m) (same_key n m))) ns)
    ∙ (turned (list_any (λ m. m == n) ns) (list_any (contains nat_cmp met) ns) (has_twice ns)
    ∙ ap (λ b. (b || list_any (contains nat_cmp met) ns) || has_twice (n ∷ ns)) (sym (was_not (contains nat_cmp met n) new)))
  where
    was_not : (b : Bool) → true ≡ not b → b ≡ false
    was_not false e = refl
    was_not true e = absurd cc

pub twice_found : (met : BTreeSet ℕ) (n : ℕ) (ns : List ℕ) → false ≡ not (contains nat_cmp met n) → twice_from met (n ∷ ns) ≡ true
twice_found met n ns old = by (contains nat_cmp met n) old
  where
    by : (b : Bool) → false ≡ not b → ((b || list_any (contains nat_cmp met) ns) || has_twice (n ∷ ns)) ≡ true
    by true e = refl
    by false e = absurd cc

pub twice_first : (met : BTreeSet ℕ) (ns : List ℕ) → met.keys ≡ [] → twice_from met ns ≡ has_twice ns
twice_first met ns empty = ap (λ b. b || has_twice ns) (none ns)
  where
    none : (ms : List ℕ) → list_any (contains nat_cmp met) ms ≡ false
    none [] = refl
    none (m ∷ ms) = ap (λ ks. list_any (λ k. is_eq (nat_cmp m k)) ks || list_any (contains nat_cmp met) ms) empty ∙ none ms

-- ---- the last of a way

last_by : (b all c : Bool) (q : Planned) (o : Option Planned) → o ≡ cond (all && c) (Some q) None → cond b o None ≡ cond ((b && all) && c) (Some q) None
last_by true all c q o e = e
last_by false all c q o e = refl

leaf_last : (ps : List Planned) (q : Planned) → leaf_behind (ps ++ q ∷ []) ≡ cond (list_all (is_a container_word) ps && is_leaf q) (Some q) None
leaf_last [] q = refl
leaf_last (p ∷ []) q = last_by (is_a container_word p) true (is_leaf q) q (cond (is_leaf q) (Some q) None) refl
leaf_last (p ∷ r ∷ ps) q =
    last_by (is_a container_word p) (list_all (is_a container_word) (r ∷ ps)) (is_leaf q) q (leaf_behind (r ∷ (ps ++ q ∷ []))) (leaf_last (r ∷ ps) q)

pub config_last : (above : List PlanNode) (last : PlanNode) (nodes : List PlanNode) (b c : Bool) → nodes ≡ above ++ last ∷ []
    → b ≡ list_all (is_a container_word) (map node_view above) → c ≡ is_leaf (node_view last)
    → cond (b && c) (Some last.planned.config) None ≡ option_map (λ p. p.config) (leaf_behind (map node_view nodes))
config_last above last nodes b c split all leaf =
    told (b && c)
    ∙ ap (option_map (λ p. p.config)) (ap₂ (λ x y. cond (x && y) (Some (node_view last)) None) all leaf
    ∙ sym (ap (λ ns. leaf_behind (map node_view ns)) split ∙ (ap leaf_behind (map-append node_view above (last ∷ [])) ∙ leaf_last (map node_view above) (node_view last))))
  where
    told : (d : Bool) → cond d (Some last.planned.config) None ≡ option_map (λ p. p.config) (cond d (Some (node_view last)) None)
    told true = refl
    told false = refl

-- ---- keys

pub wrong_leafs : (plan : spec.Plan) (p : Planned)
    → list_all (λ name. option_map_or (is_key_leaf p) (child_called plan (Some p.number) name) false) (key_names plan p) ≡ false → true ≡ is_wrong_key plan p
wrong_leafs plan p e = sym (ap (λ b. not b || has_twice (key_numbers plan p)) e)

pub right_leafs : (plan : spec.Plan) (p : Planned)
    → list_all (λ name. option_map_or (is_key_leaf p) (child_called plan (Some p.number) name) false) (key_names plan p) ≡ true
    → has_twice (key_numbers plan p) ≡ is_wrong_key plan p
right_leafs plan p e = sym (ap (λ b. not b || has_twice (key_numbers plan p)) e)

-- ---- one step more of a way down

pub one_more : (plan : spec.Plan) (parent : Option ℕ) (name : NodeName) (names : List NodeName) (p : Planned) (so_far more : List Planned)
    → Some p ≡ child_called plan parent name → more ≡ so_far ++ p ∷ []
    → option_map (λ ps. so_far ++ ps) (spec.way plan parent (name ∷ names)) ≡ option_map (λ ps. more ++ ps) (spec.way plan (Some p.number) names)
one_more plan parent name names p so_far more called added =
    ap (λ o. option_map (λ ps. so_far ++ ps) (option_and_then (λ q. option_map (λ ps. q ∷ ps) (spec.way plan (Some q.number) names)) o)) (sym called)
    ∙ (joined (spec.way plan (Some p.number) names) ∙ ap (λ xs. option_map (λ ps. xs ++ ps) (spec.way plan (Some p.number) names)) (sym added))
  where
    joined : (o : Option (List Planned)) → option_map (λ ps. so_far ++ ps) (option_map (λ ps. p ∷ ps) o) ≡ option_map (λ ps. (so_far ++ p ∷ []) ++ ps) o
    joined None = refl
    joined (Some ps) = ap Some (sym (append_assoc so_far (p ∷ []) ps))

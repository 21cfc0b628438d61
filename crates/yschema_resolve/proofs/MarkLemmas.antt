-- Which nodes are marked as keys.
use Rattle.std.proofs.Common.{◌≡◌, ℕ, suc, Bool, true, false, cond, ◌&&◌, ◌||◌, List, [], ◌∷◌, replicate, map, Option, Some, None, refl, sym, ap, ◌∙◌, subst, inl, inr}
use Rattle.std.specs.Prelude.{◌==◌, find, option_map, option_and_then, slice_get}
use Rattle.std.specs.List.{cons_option, filter_map, list_any}
use Rattle.std.specs.Option.{option_map_or}
use Rattle.std.proofs.lemmas.Bool.{or_cases, or_left, or_right, and_parts, eqb-true}
use Rattle.std.proofs.lemmas.Option.{slice_get-map}
use Rattle.yspec.specs.Forest.{Forest, end, node, size, preorder}
use Rattle.yspec.specs.linking.Keyword.{list_word}
use Rattle.yspec.specs.linking.Planned.{Planned, nodes_of, node_of, child_called, same_number, is_called, is_a}
use Rattle.yspec.specs.linking.Prefixes.{NodeName}
use Rattle.yspec.proofs.ForestLemmas.{length-preorder}
use Rattle.yspec.specs.linking.SchemaNodes.{is_key, is_among, key_names, key_numbers, number_in}
use Rattle.yschema_plan.specs.PlanView.{view}
use Rattle.yschema_plan.specs.declared.plan.Plan.{Plan}
use Rattle.yschema_plan.proofs.NodeLemmas.{found_stands, stands_at}
use Rattle.yschema_types.specs.Marks.{marked_by}
use Rattle.yschema_types.proofs.MarkLemmas.{marked_by_at, none_set, same_by_get, some_same}
use Rattle.yschema_resolve.specs.TuplesView.{keys_of}

-- ---- lists

found_is : {X : Type 0} (test : X → Bool) (xs : List X) (x : X) → find test xs ≡ Some x → test x ≡ true
found_is test [] x e = absurd cc
found_is test (y ∷ ys) x e = by (test y) refl (found_is test ys x) e
  where
    by : (b : Bool) → test y ≡ b → (find test ys ≡ Some x → test x ≡ true) → cond b (Some y) (find test ys) ≡ Some x → test x ≡ true
    by true t more h = subst (λ z. test z ≡ true) (some_same y x h) t
    by false t more h = more h

any_found : {X : Type 0} (test g : X → Bool) (xs : List X) (x : X) → find test xs ≡ Some x → g x ≡ true → list_any g xs ≡ true
any_found test g [] x e holds = absurd cc
any_found test g (y ∷ ys) x e holds = by (test y) (any_found test g ys x) e
  where
    by : (b : Bool) → (find test ys ≡ Some x → g x ≡ true → list_any g ys ≡ true) → cond b (Some y) (find test ys) ≡ Some x → (g y || list_any g ys) ≡ true
    by true more h = or_left (g y) (list_any g ys) (subst (λ z. g z ≡ true) (sym (some_same y x h)) holds)
    by false more h = or_right (g y) (list_any g ys) (more h holds)

-- one of a list of which something holds, with its place
record Placed {X : Type 0} (g : X → Bool) (xs : List X) : Type 0 where
  item : X
  place : ℕ
  stands : slice_get xs place ≡ Some item
  holds : g item ≡ true

placed : {X : Type 0} (g : X → Bool) (xs : List X) → list_any g xs ≡ true → Placed g xs
placed g [] e = absurd cc
placed g (x ∷ xs) e = elim (or_cases (g x) (list_any g xs) e) [
  | inl h ↦ record { item = x; place = 0; stands = refl; holds = h }
  | inr h ↦ let more = placed g xs h in record { item = more.item; place = suc more.place; stands = more.stands; holds = more.holds }
]

same_bool : (b c : Bool) → (b ≡ true → c ≡ true) → (c ≡ true → b ≡ true) → b ≡ c
same_bool true c there back = sym (there refl)
same_bool false true there back = back refl
same_bool false false there back = refl

parent_same : (n : ℕ) (o : Option ℕ) → same_number (Some n) o ≡ true → o ≡ Some n
parent_same n None e = absurd cc
parent_same n (Some m) e = ap Some (sym (eqb-true n m e))

-- ---- keys

abbrev nodes_in : Plan → Forest Planned
nodes_in plan = let v = view plan in v.nodes

module _ (plan : Plan) where
  -- what a key names stands right below the node that has the key
  named_below : (a p : Planned) → node_of (view plan) p.number ≡ Some p → (names : List NodeName)
      → is_among (map number_in (filter_map (child_called (view plan) (Some a.number)) names)) p ≡ true → p.parent ≡ Some a.number
  named_below a p there [] e = absurd cc
  named_below a p there (name ∷ names) e = by (child_called (view plan) (Some a.number) name) refl (named_below a p there names) e
    where
      test : Planned → Bool
      test q = same_number (Some a.number) q.parent && is_called name q

      by : (o : Option Planned) → child_called (view plan) (Some a.number) name ≡ o
          → (is_among (map number_in (filter_map (child_called (view plan) (Some a.number)) names)) p ≡ true → p.parent ≡ Some a.number)
          → is_among (map number_in (cons_option o (filter_map (child_called (view plan) (Some a.number)) names))) p ≡ true → p.parent ≡ Some a.number
      by None found more h = more h
      by (Some q) found more h =
          elim (or_cases (q.number == p.number) (is_among (map number_in (filter_map (child_called (view plan) (Some a.number)) names)) p) h) [
            | inl same ↦
                let here : q ≡ p = some_same q p (sym (found_stands plan test q found) ∙ (ap (node_of (view plan)) (eqb-true q.number p.number same) ∙ there)) in
                let below = and_parts (same_number (Some a.number) q.parent) (is_called name q) (found_is test (nodes_of (view plan)) q found) in
                subst (λ r. r.parent ≡ Some a.number) here (parent_same a.number q.parent below.0)
            | inr later ↦ more later
          ]

  -- lists alone have keys
  among_keys : (a p : Planned) → is_among (keys_of (view plan) a) p ≡ (is_a list_word a && is_among (key_numbers (view plan) a) p)
  among_keys a p = by (is_a list_word a)
    where
      by : (b : Bool) → is_among (cond b (key_numbers (view plan) a) []) p ≡ (b && is_among (key_numbers (view plan) a) p)
      by true = refl
      by false = refl

  key_below : (a p : Planned) → node_of (view plan) p.number ≡ Some p → is_among (keys_of (view plan) a) p ≡ true → p.parent ≡ Some a.number
  key_below a p there e =
      named_below a p there (key_names (view plan) a)
      (and_parts (is_a list_word a) (is_among (key_numbers (view plan) a) p) (sym (among_keys a p) ∙ e)).1

  abbrev key_above : Planned → Option Planned → Bool
  key_above p above = option_map_or (λ a. is_among (keys_of (view plan) a) p) above false

  abbrev key_by : Planned → Bool
  key_by p = key_above p (option_and_then (node_of (view plan)) p.parent)

  key_same : (p : Planned) → key_by p ≡ is_key (view plan) p
  key_same p = by (option_and_then (node_of (view plan)) p.parent)
    where
      by : (above : Option Planned) → key_above p above ≡ option_map_or (λ a. is_a list_word a && is_among (key_numbers (view plan) a) p) above false
      by None = refl
      by (Some a) = among_keys a p

  number_is : (n : ℕ) (p : Planned) → node_of (view plan) n ≡ Some p → p.number ≡ n
  number_is n p e = eqb-true p.number n (found_is (λ q. q.number == n) (nodes_of (view plan)) p e)

  key_of_one : (p : Planned) → node_of (view plan) p.number ≡ Some p
      → list_any (λ a. is_among (keys_of (view plan) a) p) (nodes_of (view plan)) ≡ key_by p
  key_of_one p there = same_bool (list_any (λ a. is_among (keys_of (view plan) a) p) (nodes_of (view plan))) (key_by p) up (down p.parent refl)
    where
      up : list_any (λ a. is_among (keys_of (view plan) a) p) (nodes_of (view plan)) ≡ true → key_by p ≡ true
      up e =
          let one = placed (λ a. is_among (keys_of (view plan) a) p) (nodes_of (view plan)) e in
          let a = one.item in
          let at : node_of (view plan) one.place ≡ Some a = stands_at plan one.place ∙ one.stands in
          let above : node_of (view plan) a.number ≡ Some a = ap (node_of (view plan)) (number_is one.place a at) ∙ at in
          ap (λ o. option_map_or (λ b. is_among (keys_of (view plan) b) p) (option_and_then (node_of (view plan)) o) false) (key_below a p there one.holds)
          ∙ (ap (λ o. option_map_or (λ b. is_among (keys_of (view plan) b) p) o false) above ∙ one.holds)

      told : (o : Option Planned) (m : ℕ) → node_of (view plan) m ≡ o → option_map_or (λ b. is_among (keys_of (view plan) b) p) o false ≡ true
          → list_any (λ a. is_among (keys_of (view plan) a) p) (nodes_of (view plan)) ≡ true
      told None m is e = absurd cc
      told (Some a) m is e = any_found (λ q. q.number == m) (λ b. is_among (keys_of (view plan) b) p) (nodes_of (view plan)) a is e

      down : (o : Option ℕ) → p.parent ≡ o → key_by p ≡ true → list_any (λ a. is_among (keys_of (view plan) a) p) (nodes_of (view plan)) ≡ true
      down None is e =
          let none : false ≡ true = sym (ap (λ o. option_map_or (λ b. is_among (keys_of (view plan) b) p) (option_and_then (node_of (view plan)) o) false) is) ∙ e in absurd cc
      down (Some m) is e =
          told (node_of (view plan) m) m refl (sym (ap (λ o. option_map_or (λ b. is_among (keys_of (view plan) b) p) (option_and_then (node_of (view plan)) o) false) is) ∙ e)

  -- the marks that all nodes set are those of the keys
  pub all_marked : (n : ℕ) → n ≡ size (nodes_in plan) → marked_by (keys_of (view plan)) (replicate n false) (nodes_of (view plan)) ≡ map (is_key (view plan)) (nodes_of (view plan))
  all_marked n count = same_by_get (marked_by (keys_of (view plan)) (replicate n false) nodes) (map (is_key (view plan)) nodes) each
    where
      nodes : List Planned
      nodes = nodes_of (view plan)

      first : (i : ℕ) → slice_get (replicate n false) i ≡ option_map (λ p. false) (slice_get nodes i)
      first i = ap (λ m. slice_get (replicate m false) i) (count ∙ sym (length-preorder (nodes_in plan))) ∙ none_set nodes i

      said : (i : ℕ) (o : Option Planned) → node_of (view plan) i ≡ o
          → option_map (λ b. b || list_any (λ a. list_any (λ m. m == i) (keys_of (view plan) a)) nodes) (option_map (λ p. false) o) ≡ option_map (is_key (view plan)) o
      said i None is = refl
      said i (Some p) is =
          let here = number_is i p is in
          ap Some (ap (λ k. list_any (λ a. list_any (λ m. m == k) (keys_of (view plan) a)) nodes) (sym here)
          ∙ (key_of_one p (ap (node_of (view plan)) here ∙ is) ∙ key_same p))

      each : (i : ℕ) → slice_get (marked_by (keys_of (view plan)) (replicate n false) nodes) i ≡ slice_get (map (is_key (view plan)) nodes) i
      each i =
          marked_by_at (keys_of (view plan)) (replicate n false) nodes i
          ∙ (ap (option_map (λ b. b || list_any (λ a. list_any (λ m. m == i) (keys_of (view plan) a)) nodes)) (first i)
          ∙ (said i (slice_get nodes i) (stands_at plan i) ∙ sym (slice_get-map (is_key (view plan)) nodes i)))

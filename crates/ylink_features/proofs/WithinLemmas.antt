-- The numbers of features and of those that their conditions name lie below how many statements there are.
use Rattle.std.proofs.Common.{◌≡◌, ℕ, zero, suc, ◌+◌, ◌<◌, ◌≤◌, Bool, true, false, cond, not, ◌&&◌, List, [], ◌∷◌, ◌++◌, map, Option, Some, None, refl, sym, subst, arith}
use Rattle.std.specs.Prelude.{⊤, option_and_then, find}
use Rattle.std.specs.List.{All, filter_map, cons_option, flat_map}
use Rattle.std.specs.Option.{option_map_or}
use Rattle.yspec.specs.Forest.{Forest, end, node, size}
use Rattle.yspec.specs.linking.Arguments.{Name}
use Rattle.yspec.specs.linking.Graph as graph
use Rattle.yspec.specs.linking.Imports.{body_at, module_meant}
use Rattle.yspec.specs.linking.Scopes.{Placed, placed, statements_of}
use Rattle.yspec.specs.linking.Source.{Source}
use Rattle.yspec_wide.specs.Features.{Feature, is_named, features_in, feature_named, names_asked, is_lost, feature_above, edge_to, feature_edges_at, feature_edges}
use Rattle.yspec_wide.specs.Language.{Language}
use Rattle.yspec_wide.specs.Sources.{is_feature, is_condition}
use Rattle.ybase_graph.specs.Edges.{edge_view, AreWithin, IsEdgeWithin}
use Rattle.ybase_graph.specs.declared.circles.Edge.{Edge}
use Rattle.ybase_preorder.specs.Layout.{numbered_by}
use Rattle.ylink_grammar.specs.declared.source.Source as held
use Rattle.ylink_grammar.specs.SourceView.{source_view}

-- ---- what holds of each of a list

abbrev Each : {A : Type 0} → (A → Type 0) → List A → Type 0
Each P [] = ⊤
Each P (x ∷ xs) = P x × Each P xs

each_append : {A : Type 0} (P : A → Type 0) (xs ys : List A) → Each P xs → Each P ys → Each P (xs ++ ys)
each_append P [] ys own others = others
each_append P (x ∷ xs) ys own others = (own.0, each_append P xs ys own.1 others)

each_flat : {A B : Type 0} (P : A → Type 0) (Q : B → Type 0) (h : A → List B) → ((x : A) → P x → Each Q (h x)) → (xs : List A) → Each P xs → Each Q (flat_map h xs)
each_flat P Q h gives [] all = tt
each_flat P Q h gives (x ∷ xs) all = each_append Q (h x) (flat_map h xs) (gives x all.0) (each_flat P Q h gives xs all.1)

each_found : {A : Type 0} (P : A → Type 0) (test : A → Bool) (xs : List A) (x : A) → Each P xs → find test xs ≡ Some x → P x
each_found P test [] x all e = absurd cc
each_found P test (y ∷ ys) x all e = by (test y) e (λ later. each_found P test ys x all.1 later)
  where
    by : (b : Bool) → cond b (Some y) (find test ys) ≡ Some x → (find test ys ≡ Some x → P x) → P x
    by true e rest = let same : y ≡ x = cc in subst P same all.0
    by false e rest = rest e

-- ---- numbers below a bound

module _ (n : ℕ) where
  abbrev AllBelow : Forest Source → Type 0
  AllBelow end = ⊤
  AllBelow (node s below after) = (s.number < n) × (AllBelow below × AllBelow after)

  all_numbered : (k : ℕ) (f : Forest held.Source) → k + size f ≤ n → AllBelow (numbered_by source_view k f)
  all_numbered k end within = tt
  all_numbered k (node l below after) within =
      (omega (arith, within), (all_numbered (k + 1) below (omega (arith, within)), all_numbered (k + suc (size below)) after (omega (arith, within))))

  in_body : (f : Forest Source) → AllBelow f → (m : ℕ) → AllBelow (body_at f m)
  in_body end all m = tt
  in_body (node s below after) all zero = all.1.0
  in_body (node s below after) all (suc m) = in_body after all.1.1 m

  abbrev AreAbove : List (Source × Forest Source) → Type 0
  AreAbove ancestors = Each (λ (a : Source × Forest Source). a.0.number < n) ancestors

  abbrev IsPlaced : Placed → Type 0
  IsPlaced p = AreAbove p.ancestors

  all_placed : (ancestors : List (Source × Forest Source)) (f : Forest Source) → AreAbove ancestors → AllBelow f → Each IsPlaced (placed ancestors f)
  unfolding placed
  all_placed ancestors end above all = tt
  all_placed ancestors (node s below after) above all = (
    above,
    each_append IsPlaced (placed ((s, below) ∷ ancestors) below) (placed ancestors after)
        (all_placed ((s, below) ∷ ancestors) below (all.0, above) all.1.0) (all_placed ancestors after above all.1.1),
  )

  abbrev IsWithin : graph.Edge → Type 0
  IsWithin e = (e.source < n) × (e.target < n)

  module _ (language : Language) where
    abbrev IsBelow : Feature → Type 0
    IsBelow g = g.source.number < n

    in_row : (f : Forest Source) → AllBelow f → Each IsBelow (features_in language f)
    in_row end all = tt
    in_row (node s below after) all = by (is_feature language s) (in_row after all.1.1)
      where
        by : (b : Bool) → Each IsBelow (features_in language after)
            → Each IsBelow (cond b (record { source = s; below = below } ∷ features_in language after) (features_in language after))
        by true rest = (all.0, rest)
        by false rest = rest

    above_within : (s : Source) (below : Forest Source) (ancestors : List (Source × Forest Source)) → AreAbove ancestors
        → (a : Source) → feature_above language (record { source = s; below = below; ancestors = ancestors }) ≡ Some a → a.number < n
    above_within s below [] above a e = absurd cc
    above_within s below (x ∷ ancestors) above a e = by (is_feature language x.0) e
      where
        by : (b : Bool) → cond b (Some x.0) None ≡ Some a → a.number < n
        by true e = let same : x.0 ≡ a = cc in subst (λ (r : Source). r.number < n) same above.0
        by false e = absurd cc

    module _ (modules : Forest Source) (all : AllBelow modules) where
      named_within : (home : ℕ) (name : Name) (g : Feature) → feature_named language modules home name ≡ Some g → IsBelow g
      named_within home name g e = by (option_map_or (module_meant modules home) name.prefix (Some home)) e
        where
          by : (o : Option ℕ) → option_and_then (λ m. find (is_named name.identifier) (features_in language (body_at modules m))) o ≡ Some g → IsBelow g
          by None e = absurd cc
          by (Some m) e = each_found IsBelow (is_named name.identifier) (features_in language (body_at modules m)) g (in_row (body_at modules m) (in_body modules all m)) e

      edges_to_named : (home a : ℕ) → a < n → (names : List Name) → Each IsWithin (map (edge_to language a) (filter_map (feature_named language modules home) names))
      edges_to_named home a above [] = tt
      edges_to_named home a above (name ∷ names) = by (feature_named language modules home name) refl (edges_to_named home a above names)
        where
          others : List Feature
          others = filter_map (feature_named language modules home) names

          by : (o : Option Feature) → feature_named language modules home name ≡ o → Each IsWithin (map (edge_to language a) others)
              → Each IsWithin (map (edge_to language a) (cons_option o others))
          by None is rest = rest
          by (Some g) is rest = ((above, named_within home name g is), rest)

      edges_at : (p : Placed) → IsPlaced p → Each IsWithin (feature_edges_at language modules p)
      edges_at p placed_so = by (is_condition language p.source && not (is_lost language modules p.source)) (feature_above language p) refl
        where
          targets : List Feature
          targets = filter_map (feature_named language modules p.source.home) (names_asked language modules p.source)

          by : (b : Bool) (o : Option Source) → feature_above language p ≡ o
              → Each IsWithin (cond b (option_map_or (λ (above : Source). map (edge_to language above.number) targets) o []) [])
          by false o is = tt
          by true None is = tt
          by true (Some a) is = edges_to_named p.source.home a.number (above_within p.source p.below p.ancestors placed_so a is) (names_asked language modules p.source)

-- ---- a set has as many statements as rows

pub edges_within : (language : Language) (f : Forest held.Source) (edges : List Edge) → map edge_view edges ≡ feature_edges language (numbered_by source_view 0 f)
    → AreWithin (size f) edges
edges_within language f edges is = all_from edges (subst (Each (IsWithin (size f))) (sym is) each_edge)
  where
    set : Forest Source
    set = numbered_by source_view 0 f

    all_of_set : AllBelow (size f) set
    all_of_set = all_numbered (size f) 0 f (omega arith)

    each_edge : Each (IsWithin (size f)) (feature_edges language set)
    each_edge = each_flat (IsPlaced (size f)) (IsWithin (size f)) (feature_edges_at language set) (edges_at (size f) language set all_of_set) (statements_of set)
        (all_placed (size f) [] set tt all_of_set)

    all_from : (es : List Edge) → Each (IsWithin (size f)) (map edge_view es) → All (IsEdgeWithin (size f)) es
    all_from [] all k d within = absurd (omega (arith, within))
    all_from (e ∷ es) all zero d within = all.0
    all_from (e ∷ es) all (suc k) d within = all_from es all.1 k d (omega (arith, within))

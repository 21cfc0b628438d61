-- The numbers of statements, of what they name and of what holds them lie below how many statements there are.
use Rattle.std.proofs.Common.{◌≡◌, ℕ, zero, suc, ◌+◌, ◌<◌, ◌≤◌, Bool, true, false, cond, List, [], ◌∷◌, ◌++◌, length, map, get_or, Option, Some, None, refl, sym, arith, subst}
use Rattle.std.specs.Prelude.{⊤, option_map, option_and_then, find}
use Rattle.std.specs.List.{All, Contains, filter_map, cons_option}
use Rattle.std.specs.Option.{option_map_or}
use Rattle.yspec.specs.Forest.{Forest, end, node, size, row}
use Rattle.yspec.specs.linking.Arguments.{Name, name_of}
use Rattle.yspec.specs.linking.Circles.{referring, innermost, definition_edge, definition_edges}
use Rattle.yspec.specs.linking.Graph as graph
use Rattle.yspec.specs.linking.Imports.{body_at, module_meant}
use Rattle.yspec.specs.linking.Keyword.{Keyword}
use Rattle.yspec.specs.linking.Scopes.{Placed, placed, statements_of, around, defines, defined_in, definition_named, meaning, kind_named, names_built_in}
use Rattle.yspec.specs.linking.Source.{Source, is_source_of, argument_in}
use Rattle.ybase_graph.specs.Edges.{edge_view, AreWithin, IsEdgeWithin}
use Rattle.ybase_graph.specs.declared.circles.Edge.{Edge}
use Rattle.ybase_preorder.specs.Layout.{numbered_by}
use Rattle.ylink_grammar.specs.declared.source.Source as held
use Rattle.ylink_grammar.specs.SourceView.{source_view}

-- what holds of each of a list
abbrev pub Each : {A : Type 0} → (A → Type 0) → List A → Type 0
Each P [] = ⊤
Each P (x ∷ xs) = P x × Each P xs

each_append : {A : Type 0} (P : A → Type 0) (xs ys : List A) → Each P xs → Each P ys → Each P (xs ++ ys)
each_append P [] ys own others = others
each_append P (x ∷ xs) ys own others = (own.0, each_append P xs ys own.1 others)

each_found : {A : Type 0} (P : A → Type 0) (test : A → Bool) (xs : List A) (x : A) → Each P xs → find test xs ≡ Some x → P x
each_found P test [] x all e = absurd cc
each_found P test (y ∷ ys) x all e = by (test y) e (λ later. each_found P test ys x all.1 later)
  where
    by : (b : Bool) → cond b (Some y) (find test ys) ≡ Some x → (find test ys ≡ Some x → P x) → P x
    by true e rest = let same : y ≡ x = cc in subst P same all.0
    by false e rest = rest e

each_given : {A B : Type 0} (P : A → Type 0) (Q : B → Type 0) (h : A → Option B) → ((x : A) → P x → (y : B) → h x ≡ Some y → Q y)
    → (xs : List A) → Each P xs → Each Q (filter_map h xs)
each_given P Q h gives [] all = tt
each_given {A} {B} P Q h gives (x ∷ xs) all = by (h x) refl (each_given P Q h gives xs all.1)
  where
    by : (o : Option B) → h x ≡ o → Each Q (filter_map h xs) → Each Q (cons_option o (filter_map h xs))
    by None e rest = rest
    by (Some y) e rest = (gives x all.0 y e, rest)

module _ (n : ℕ) where
  abbrev pub Below : Source → Type 0
  Below s = s.number < n

  -- all of a forest
  abbrev pub AllBelow : Forest Source → Type 0
  AllBelow end = ⊤
  AllBelow (node s below after) = Below s × (AllBelow below × AllBelow after)

  all_numbered : (k : ℕ) (f : Forest held.Source) → k + size f ≤ n → AllBelow (numbered_by source_view k f)
  all_numbered k end within = tt
  all_numbered k (node l below after) within =
      (omega (arith, within), (all_numbered (k + 1) below (omega (arith, within)), all_numbered (k + suc (size below)) after (omega (arith, within))))

  in_row : (f : Forest Source) → AllBelow f → Each Below (row f)
  in_row end all = tt
  in_row (node s below after) all = (all.0, in_row after all.1.1)

  in_body : (f : Forest Source) → AllBelow f → (m : ℕ) → AllBelow (body_at f m)
  in_body end all m = tt
  in_body (node s below after) all zero = all.1.0
  in_body (node s below after) all (suc m) = in_body after all.1.1 m

  abbrev pub IsAncestor : Source × Forest Source → Type 0
  IsAncestor a = Below a.0 × AllBelow a.1

  in_around : (ancestors : List (Source × Forest Source)) → Each IsAncestor ancestors → Each Below (around ancestors)
  in_around [] all = tt
  in_around (a ∷ ancestors) all = each_append Below (row a.1) (around ancestors) (in_row a.1 all.0.1) (in_around ancestors all.1)

  abbrev pub IsPlaced : Placed → Type 0
  IsPlaced p = Below p.source × Each IsAncestor p.ancestors

  all_placed : (ancestors : List (Source × Forest Source)) (f : Forest Source) → Each IsAncestor ancestors → AllBelow f → Each IsPlaced (placed ancestors f)
  unfolding placed
  all_placed ancestors end around_it all = tt
  all_placed ancestors (node s below after) around_it all = (
    (all.0, around_it),
    each_append IsPlaced (placed ((s, below) ∷ ancestors) below) (placed ancestors after)
        (all_placed ((s, below) ∷ ancestors) below ((all.0, all.1.0), around_it) all.1.0) (all_placed ancestors after around_it all.1.1),
  )

  module _ (modules : Forest Source) (all : AllBelow modules) (p : Placed) (is : IsPlaced p) where
    is_defined : (kind : Keyword) (name : _) (m : ℕ) (d : Source) → defined_in modules kind name p m ≡ Some d → Below d
    is_defined kind name m d e = by (_) e
      where
        by : (b : Bool) → cond b (find (defines kind name) (around p.ancestors)) (find (defines kind name) (row (body_at modules m))) ≡ Some d → Below d
        by true e = each_found Below (defines kind name) (around p.ancestors) d (in_around p.ancestors is.1) e
        by false e = each_found Below (defines kind name) (row (body_at modules m)) d (in_row (body_at modules m) (in_body modules all m)) e

    is_named : (kind : Keyword) (name : Name) (d : Source) → definition_named modules kind p name ≡ Some d → Below d
    is_named kind name d e = by (option_map_or (module_meant modules p.source.home) name.prefix (Some p.source.home)) e
      where
        by : (o : Option ℕ) → option_and_then (defined_in modules kind name.identifier p) o ≡ Some d → Below d
        by None e = absurd cc
        by (Some m) e = is_defined kind name.identifier m d e

    is_meant : (d : Source) → meaning modules p ≡ Some d → Below d
    is_meant d e = by (names_built_in p.source) e
      where
        of_name : (kind : Keyword) (o : Option Name) → option_and_then (definition_named modules kind p) o ≡ Some d → Below d
        of_name kind None e = absurd cc
        of_name kind (Some name) e = is_named kind name d e

        of_kind : (o : Option Keyword) → option_and_then (λ kind. option_and_then (definition_named modules kind p) (name_of (argument_in p.source))) o ≡ Some d → Below d
        of_kind None e = absurd cc
        of_kind (Some kind) e = of_name kind (name_of (argument_in p.source)) e

        by : (b : Bool) → cond b None (option_and_then (λ kind. option_and_then (definition_named modules kind p) (name_of (argument_in p.source))) (kind_named p.source.keyword)) ≡ Some d → Below d
        by true e = absurd cc
        by false e = of_kind (kind_named p.source.keyword) e

    holds : (a : ℕ) → referring p ≡ Some a → a < n
    holds a e = by (kind_named p.source.keyword) e
      where
        found : (kind : Keyword) (o : Option (Source × Forest Source)) → find (λ (x : Source × Forest Source). is_source_of kind x.0) p.ancestors ≡ o
            → option_map (λ (x : Source × Forest Source). x.0.number) o ≡ Some a → a < n
        found kind None is_it e = absurd cc
        found kind (Some x) is_it e =
            let same : x.0.number ≡ a = cc in
            subst (λ k. k < n) same (each_found IsAncestor (λ (y : Source × Forest Source). is_source_of kind y.0) p.ancestors x is.1 is_it).0

        by : (o : Option Keyword) → option_and_then (λ kind. innermost kind p) o ≡ Some a → a < n
        by None e = absurd cc
        by (Some kind) e = found kind (find (λ (x : Source × Forest Source). is_source_of kind x.0) p.ancestors) refl e

    abbrev IsWithin : graph.Edge → Type 0
    IsWithin e = (e.source < n) × (e.target < n)

    is_edge : (e : graph.Edge) → definition_edge modules p ≡ Some e → IsWithin e
    is_edge e is_it = by (meaning modules p) refl is_it
      where
        held : (d : Source) (o : Option ℕ) → meaning modules p ≡ Some d → referring p ≡ o → option_map (λ (a : ℕ). record { source = a; target = d.number }) o ≡ Some e → IsWithin e
        held d None meant refers it = absurd cc
        held d (Some a) meant refers it =
            let same : record { source = a; target = d.number } ≡ e = cc in
            subst IsWithin same (holds a refers, is_meant d meant)

        by : (o : Option Source) → meaning modules p ≡ o → option_and_then (λ (d : Source). option_map (λ (a : ℕ). record { source = a; target = d.number }) (referring p)) o ≡ Some e → IsWithin e
        by None meant it = absurd cc
        by (Some d) meant it = held d (referring p) meant refl it

abbrev pub IsWithin' : ℕ → graph.Edge → Type 0
IsWithin' n e = (e.source < n) × (e.target < n)

-- a set has as many statements as rows
module _ (f : Forest held.Source) where
  abbrev set : Forest Source
  set = numbered_by source_view 0 f

  all_of_set : AllBelow (size f) set
  all_of_set = all_numbered (size f) 0 f (omega arith)

  pub each_placed : Each (IsPlaced (size f)) (statements_of set)
  each_placed = all_placed (size f) [] set tt all_of_set

  pub each_edge : Each (IsWithin' (size f)) (definition_edges set)
  each_edge = each_given (IsPlaced (size f)) (IsWithin' (size f)) (definition_edge set) (λ p is e it. is_edge (size f) set all_of_set p is e it) (statements_of set) each_placed

  -- what a statement names
  pub meant_within : (p : Placed) → Contains (statements_of set) p → (d : Source) → meaning set p ≡ Some d → d.number < size f
  meant_within p at d e = is_meant (size f) set all_of_set p (each_at (statements_of set) each_placed at.0 at.1 at.2) d e
    where
      each_at : (ps : List Placed) → Each (IsPlaced (size f)) ps → (i : ℕ) → i < length ps → get_or ps i p ≡ p → IsPlaced (size f) p
      each_at [] all i within is = absurd (omega (arith, within))
      each_at (q ∷ qs) all zero within is = subst (IsPlaced (size f)) is all.0
      each_at (q ∷ qs) all (suc i) within is = each_at qs all.1 i (omega (arith, within)) is

  pub edges_within : (edges : List Edge) → map edge_view edges ≡ definition_edges set → AreWithin (size f) edges
  edges_within edges is = all_from edges (subst (Each (IsWithin' (size f))) (sym is) each_edge)
    where
      all_from : (es : List Edge) → Each (IsWithin' (size f)) (map edge_view es) → All (IsEdgeWithin (size f)) es
      all_from [] all k d within = absurd (omega (arith, within))
      all_from (e ∷ es) all zero d within = all.0
      all_from (e ∷ es) all (suc k) d within = all_from es all.1 k d (omega (arith, within))

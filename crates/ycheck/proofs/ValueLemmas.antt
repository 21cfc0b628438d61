-- Values of entries and tuples of them, one by one.
use Rattle.std.proofs.Common.{◌≡◌, ℕ, ◌+◌, ◌<◌, ◌≤◌, Bool, false, cond, ltb, zero, suc, ◌-◌, List, [], ◌∷◌, ◌++◌, length, drop, map, get_or, Option, Some, None, refl, sym, ap, ap₂, ◌∙◌, arith, Vec, Ordering, Less, Equal, Greater, ◌&&◌}
use Rattle.std.proofs.lemmas.Bool.{eq-eqb}
use Rattle.std.proofs.lemmas.List.{at_drop_all, append-nil}
use Rattle.std.proofs.lemmas.List.Sums.{sum_by-cons}
use Rattle.std.specs.Prelude.{option_map, unwrap_or, slice_get}
use Rattle.std.specs.Option.{option_map_or}
use Rattle.yspec.specs.Forest.{node}
use Rattle.yspec.specs.types.Types.{Val}
use Rattle.yspec.specs.schema.Schema.{Schema, Tuples, LeafPath}
use Rattle.yspec.specs.document.Document.{Stored, Tree, stored_in, row_in}
use Rattle.yspec.specs.document.Instances.{Tuple, tuple_of_paths, paths_of, same_tuple}
use Rattle.std.specs.Global.{Global}
use Rattle.std.specs.Ordering.{is_eq, eq_by_cmp, ordering_then}
use Rattle.std.specs.Cmp.Lexicographic.{slice_cmp, pointwise}
use Rattle.std.proofs.lemmas.Option.{slice_get-map, slice_get_read, slice_get_past}
use Rattle.yspec.specs.types.Order.{value_cmp, same_value}
use Rattle.yschema_model.specs.declared.node.SchemaId.{SchemaId}
use Rattle.yschema_model.specs.declared.node.Tuples as code
use Rattle.yschema_model.specs.Layout.{numbers_of, tuples_view}
use Rattle.yinst_tree.specs.declared.tree.Stored as tree
use Rattle.ycheck.specs.Repeated.{times_among, repeats, marks, tuples_of}

-- ---- the first of a row

pub found_first : (m : ℕ) (t : Tree) (s : Stored) (below after : Tree) → t ≡ node s below after → s.schema_number ≡ m → stored_in m t ≡ Some s
found_first m t s below after is same = ap (stored_in m) is ∙ ap (λ b. cond b (Some s) (stored_in m after)) (eq-eqb s.schema_number m same)

pub row_first : (m : ℕ) (t : Tree) (s : Stored) (below after : Tree) → t ≡ node s below after → s.schema_number ≡ m → row_in m t ≡ Some below
row_first m t s below after is same = ap (row_in m) is ∙ ap (λ b. cond b (Some below) (row_in m after)) (eq-eqb s.schema_number m same)

-- ---- a tuple, value by value

-- values with those of the leafs that are left
abbrev pub with_front : Tuple → Option Tuple → Option Tuple
with_front done rest = option_map (λ vs. done ++ vs) rest

-- the leafs of a `unique`
pub of_number : (shape : Tuples) (n : ℕ) → 0 < n → paths_of shape n ≡ unwrap_or (slice_get shape.uniques (n - 1)) []
of_number shape zero some = absurd (omega arith)
of_number shape (suc n) some = let same : n ≡ suc n - 1 = omega arith in ap (λ m. unwrap_or (slice_get shape.uniques m) []) same

pub unique_some : (t : code.Tuples) (n : ℕ) (x : Vec (Vec SchemaId Global) Global) → (n ≡ 0 → ⊥) → n - 1 < length t.uniques.items → x ≡ get_or t.uniques.items (n - 1) x
    → map (λ path. numbers_of path.items) x.items ≡ paths_of (tuples_view t) n
unique_some t n x some within is =
    let seen : Vec (Vec SchemaId Global) Global → List LeafPath = λ unique. map (λ path. numbers_of path.items) unique.items in
    sym (of_number (tuples_view t) n (omega (arith, some)) ∙ ap (λ o. unwrap_or o []) (slice_get-map seen t.uniques.items (n - 1)
    ∙ ap (option_map seen) (slice_get_read t.uniques.items (length t.uniques.items) (n - 1) x refl within is)))

pub unique_none : (s : Schema) (row : Tree) (t : code.Tuples) (n : ℕ) → (n ≡ 0 → ⊥) → length t.uniques.items ≤ n - 1 → None ≡ tuple_of_paths s row (paths_of (tuples_view t) n)
unique_none s row t n some past =
    let seen : Vec (Vec SchemaId Global) Global → List LeafPath = λ unique. map (λ path. numbers_of path.items) unique.items in
    sym (ap (tuple_of_paths s row) (of_number (tuples_view t) n (omega (arith, some)) ∙ ap (λ o. unwrap_or o []) (slice_get-map seen t.uniques.items (n - 1)
    ∙ ap (option_map seen) (slice_get_past t.uniques.items (n - 1) past))))

-- ---- marks by another view of the keys

module _ {A B : Type 0} (f : A → B) (same : A → A → Bool) (alike : B → B → Bool) (agree : (x y : A) → same x y ≡ alike (f x) (f y)) where
  times_seen : (xs : List (Option A)) (x : A) → times_among same xs x ≡ times_among alike (map (option_map f) xs) (f x)
  times_seen [] x = refl
  times_seen (y ∷ xs) x =
      sum_by-cons (λ (o : Option A). cond (option_map_or (same x) o false) 1 0) y xs
      ∙ (ap₂ ◌+◌ (one y) (times_seen xs x)
      ∙ sym (sum_by-cons (λ (o : Option B). cond (option_map_or (alike (f x)) o false) 1 0) (option_map f y) (map (option_map f) xs)))
    where
      worth : Bool → ℕ
      worth b = cond b 1 0

      one : (y : Option A) → worth (option_map_or (same x) y false) ≡ worth (option_map_or (alike (f x)) (option_map f y) false)
      one None = refl
      one (Some z) = ap worth (agree x z)

  repeats_seen : (others : List (Option A)) (xs : List (Option A)) → map (repeats same others) xs ≡ map (repeats alike (map (option_map f) others)) (map (option_map f) xs)
  repeats_seen others [] = refl
  repeats_seen others (None ∷ xs) = ap (λ bs. false ∷ bs) (repeats_seen others xs)
  repeats_seen others (Some x ∷ xs) = ap₂ ◌∷◌ (ap (ltb 1) (times_seen others x)) (repeats_seen others xs)

  pub marks_seen : (xs : List (Option A)) → marks same xs ≡ marks alike (map (option_map f) xs)
  marks_seen xs = repeats_seen xs xs

-- tuples that compare alike are the same
alike_tuples : (vs ws : Tuple) → is_eq (slice_cmp value_cmp vs ws) ≡ pointwise same_value vs ws
alike_tuples [] [] = refl
alike_tuples [] (w ∷ ws) = refl
alike_tuples (v ∷ vs) [] = refl
alike_tuples (v ∷ vs) (w ∷ ws) = by (value_cmp v w) ∙ ap (λ b. is_eq (value_cmp v w) && b) (alike_tuples vs ws)
  where
    by : (o : Ordering) → is_eq (ordering_then o (slice_cmp value_cmp vs ws)) ≡ (is_eq o && is_eq (slice_cmp value_cmp vs ws))
    by Less = refl
    by Equal = refl
    by Greater = refl

pub tuple_marks : (s : Schema) (shape : Tuples) (n : ℕ) (entries : List tree.Stored) (i : ℕ) (found : List (Option (Vec Val Global))) → length entries ≤ i
    → map (option_map (λ vs. vs.items)) found ++ tuples_of s shape n (drop i entries) ≡ tuples_of s shape n entries
    → marks (eq_by_cmp (λ (x y : Vec Val Global). slice_cmp value_cmp x.items y.items)) found ≡ marks same_tuple (tuples_of s shape n entries)
tuple_marks s shape n entries i found ended so =
    let seen : Vec Val Global → Tuple = λ vs. vs.items in
    marks_seen seen (eq_by_cmp (λ (x y : Vec Val Global). slice_cmp value_cmp x.items y.items)) same_tuple (λ x y. alike_tuples x.items y.items) found
    ∙ ap (marks same_tuple) (sym (append-nil (map (option_map seen) found))
    ∙ (sym (at_drop_all (λ ss. map (option_map seen) found ++ tuples_of s shape n ss) entries i ended) ∙ so))

-- Edges of the code, the rows made of them, and the test.
use Rattle.std.proofs.Common.{◌≡◌, ◌≢◌, ℕ, zero, suc, ◌+◌, ◌<◌, ◌≤◌, ◌==◌, ◌||◌, Bool, true, false, List, [], ◌∷◌, ◌++◌, length, get_or, take, map, Option, refl, sym, ap, ◌∙◌, subst, inl, inr, arith}
use Rattle.std.specs.Prelude.{◌⊎◌}
use Rattle.std.specs.List.{list_any}
use Rattle.std.specs.List.Sorted.{IsNonDecreasingBy}
use Rattle.std.specs.Option.{option_map_or}
use Rattle.std.proofs.lemmas.Bool.{cases_lt, cases_eq, or_cases, or_left, or_right, and_from, eqb-true, eq-eqb, false≢true}
use Rattle.std.proofs.lemmas.Option.{slice_get-get_or}
use Rattle.std.proofs.lemmas.List.Folds.{list_any-append}
use Rattle.std.proofs.Math.ListN.{set}
use Rattle.std.proofs.lemmas.List.{length-set, get_or-set_same, get_or-set_other, length-append, get_or_append_left, map_more}
use Rattle.std.proofs.Math.Seq.{get_or-append_seam}
use Rattle.std.specs.declared.alloc.Global.{Global}
use Rattle.std.specs.declared.vec.Vec.{Vec}
use Rattle.yspec.specs.linking.Graph as spec
use Rattle.yspec.specs.linking.Graph.{is_on_circle}
use Rattle.ybase_graph.specs.Reaching.{Reaches, here, along, leads, has_edge, HasEdge, StandsBefore}
use Rattle.ybase_graph.specs.Search.{Rows, HasTarget, TargetsWithin, targets_of, IsRanking}
use Rattle.ybase_graph.specs.Edges.{edge_view, IsEdgeWithin, AreWithin, HaveTargets, HaveNoTargets}
use Rattle.ybase_graph.specs.declared.circles.Edge.{Edge}
use Rattle.ybase_graph.proofs.ReachingLaws.{circle_leads, leads_circle, edge_first}
use Rattle.ybase_graph.proofs.RankLemmas.{source_within, ranks_tell}

-- within a list the default doesn't matter
get_or_other : {X : Type 0} (xs : List X) (i : ℕ) (d e : X) → i < length xs → get_or xs i d ≡ get_or xs i e
get_or_other [] i d e low = absurd (omega (arith, low))
get_or_other (x ∷ xs) zero d e low = refl
get_or_other (x ∷ xs) (suc i) d e low = get_or_other xs i d e (omega (arith, low))

-- the ends of an edge that leads from a node to another
leads_is : (a b : ℕ) (e : spec.Edge) → leads a b e ≡ true → (e.source ≡ a) × (e.target ≡ b)
leads_is a b e h = edge_first e a b h

leads_at : (a b : ℕ) (e : Edge) → e.source ≡ a → e.target ≡ b → leads a b (edge_view e) ≡ true
leads_at a b e s t = and_from (e.source == a) (e.target == b) (eq-eqb e.source a s) (eq-eqb e.target b t)

mapped : (E F : ℕ → ℕ → Type 0) → ((a b : ℕ) → E a b → F a b) → (a b : ℕ) → Reaches E a b → Reaches F a b
mapped E F more a b here = here
mapped E F more a b (along {b = c} e r) = along (more a c e) (mapped E F more c b r)

pub bool_same : (x y : Bool) → (x ≡ true → y ≡ true) → (y ≡ true → x ≡ true) → x ≡ y
bool_same true y f g = sym (f refl)
bool_same false false f g = refl
bool_same false true f g = g refl

edge_within : (n : ℕ) → (edges : List Edge) → AreWithin n edges → (a b : ℕ) → has_edge (map edge_view edges) a b ≡ true → b < n
edge_within n [] all a b has = absurd (false≢true has)
edge_within n (e ∷ es) all a b has = elim (or_cases (leads a b (edge_view e)) (has_edge (map edge_view es) a b) has) [
  | inl first ↦ subst (λ (t : ℕ). t < n) (leads_is a b (edge_view e) first).1 (all 0 e (omega arith)).1
  | inr later ↦ edge_within n es (λ k d h. all (suc k) d (omega (arith, h))) a b later
]

any_at : (edges : List Edge) → (i : ℕ) → (e d : Edge) → i < length edges → e ≡ get_or edges i d → (a b : ℕ)
    → leads a b (edge_view e) ≡ true → has_edge (map edge_view edges) a b ≡ true
any_at [] i e d h is a b test = absurd (omega (arith, h))
any_at (x ∷ xs) zero e d h is a b test = or_left (leads a b (edge_view x)) (has_edge (map edge_view xs) a b)
    (subst (λ (k : Edge). leads a b (edge_view k) ≡ true) is test)
any_at (x ∷ xs) (suc i) e d h is a b test = or_right (leads a b (edge_view x)) (has_edge (map edge_view xs) a b)
    (any_at xs i e d (omega (arith, h)) is a b test)

module _ (n : ℕ) (edges : List Edge) (all : AreWithin n edges) (rows : Rows) (made : HaveTargets n edges rows) where
  abbrev graph : List spec.Edge
  graph = map edge_view edges

  pub rows_within : TargetsWithin rows
  rows_within a b has = let c = made.count in let low = edge_within n edges all a b (made.edge a b has) in omega (arith, c, low)

  module _ (ranks : List ℕ) (is : IsRanking rows ranks) where
    pub edge_told : (i : ℕ) → (e d : Edge) → i < length edges → e ≡ get_or edges i d
        → is_on_circle graph (edge_view e) ≡ (get_or ranks e.source 0 == get_or ranks e.target 0)
    edge_told i e d h at =
        let has = any_at edges i e d h at e.source e.target (leads_at e.source e.target e refl refl) in
        let tell = ranks_tell rows ranks rows_within is e.source e.target (made.target e.source e.target has) in
        bool_same (is_on_circle graph (edge_view e)) (get_or ranks e.source 0 == get_or ranks e.target 0)
        (λ r. eq-eqb (get_or ranks e.source 0) (get_or ranks e.target 0)
        (tell.0 (mapped (HasEdge graph) (HasTarget rows) made.target e.target e.source (circle_leads graph (edge_view e) r))))
        (λ r. leads_circle graph (edge_view e)
        (mapped (HasTarget rows) (HasEdge graph) made.edge e.target e.source (tell.1 (eqb-true (get_or ranks e.source 0) (get_or ranks e.target 0) r))))

    pub stands_before : (a b : ℕ) → has_edge graph a b ≡ true → is_on_circle graph (record { source = a; target = b }) ≡ false
        → (nodes : List ℕ) → IsNonDecreasingBy (λ v. get_or ranks v 0) nodes → StandsBefore nodes b a
    stands_before a b has off nodes rising i j low_i low_j at_i at_j = elim (cases_lt j i) [
      | inl before ↦ before
      | inr behind ↦
          let up = rising i j 0 behind low_j in
          let of_a : get_or ranks (get_or nodes i 0) 0 ≡ get_or ranks a 0 = ap (λ v. get_or ranks v 0) at_i in
          let of_b : get_or ranks (get_or nodes j 0) 0 ≡ get_or ranks b 0 = ap (λ v. get_or ranks v 0) at_j in
          let down = is.down a b (made.target a b has) in
          let tell = ranks_tell rows ranks rows_within is a b (made.target a b has) in
          absurd (false≢true (sym off ∙ leads_circle graph (record { source = a; target = b })
          (mapped (HasTarget rows) (HasEdge graph) made.edge b a (tell.1 (omega (arith, up, of_a, of_b, down))))))
    ]

    pub one_more : (i : ℕ) → (e d : Edge) → (flags flags' : List Bool) → (flag : Bool) → i < length edges → e ≡ get_or edges i d
        → flags ≡ map (λ k. is_on_circle graph (edge_view k)) (take i edges) → flags' ≡ flags ++ flag ∷ []
        → flag ≡ (get_or ranks e.source 0 == get_or ranks e.target 0)
        → flags' ≡ map (λ k. is_on_circle graph (edge_view k)) (take (i + 1) edges)
    one_more i e d flags flags' flag h at so_far is' is_flag =
        let same : flag ≡ is_on_circle graph (edge_view (get_or edges i d)) =
        is_flag ∙ sym (edge_told i e d h at) ∙ ap (λ (k : Edge). is_on_circle graph (edge_view k)) at in
        is' ∙ ap (λ (x : List Bool). x ++ flag ∷ []) so_far
        ∙ ap (λ (x : Bool). map (λ k. is_on_circle graph (edge_view k)) (take i edges) ++ x ∷ []) same
        ∙ sym (map_more (λ k. is_on_circle graph (edge_view k)) edges i d h)

-- ---- how many nodes there are

pub within_more : (edges : List Edge) (i count more : ℕ) → i < length edges
    → ((k : ℕ) (d : Edge) → k < i → IsEdgeWithin count (get_or edges k d)) → count ≤ more
    → (d : Edge) → IsEdgeWithin more (get_or edges i d)
    → (k : ℕ) (d : Edge) → k < i + 1 → IsEdgeWithin more (get_or edges k d)
within_more edges i count more within before up d last k d' low = elim (cases_eq k i) [
  | inl same ↦ subst (λ (e : Edge). IsEdgeWithin more e) (sym (get_or_other edges k d' d (omega (arith, within, same))
      ∙ ap (λ (j : ℕ). get_or edges j d) same)) last
  | inr ne ↦ let b = before k d' (omega (arith, low, ne)) in let s = b.0 in let t = b.1 in
      (omega (arith, s, up), omega (arith, t, up))
]

-- ---- rows

pub targets_get : (rows : Rows) → (a : ℕ) → (d : Vec ℕ Global) → a < length rows → targets_of rows a ≡ (get_or rows a d).items
targets_get rows a d h = ap (λ (o : Option (Vec ℕ Global)). option_map_or (λ (r : Vec ℕ Global). r.items) o []) (slice_get-get_or rows a d h)

below_none : (k : ℕ) → k < 0 → ⊥
below_none k h = omega arith

pub none_more : (n : ℕ) → (rows rows' : Rows) → (row : Vec ℕ Global) → HaveNoTargets n rows → row.items ≡ [] → rows' ≡ rows ++ row ∷ []
    → HaveNoTargets (n + 1) rows'
none_more n rows rows' row h is_row is = let c = h.count in let l : length rows' ≡ length rows + length (row ∷ []) = ap length is ∙ length-append rows (row ∷ []) in record {
  count = omega (arith, c, l);
  none = λ a b has. let low = source_within rows' a b has in elim (cases_lt a (length rows)) [
    | inl before ↦ h.none a b (subst (λ (x : List ℕ). (k : ℕ) × (k < length x) × (get_or x k b ≡ b))
        (targets_get rows' a row low ∙ ap (λ (x : Rows). (get_or x a row).items) is
        ∙ ap (λ (r : Vec ℕ Global). r.items) (get_or_append_left rows (row ∷ []) row a before) ∙ sym (targets_get rows a row before)) has)
    | inr last ↦ let at : a ≡ length rows = omega (arith, low, l, last) in
        let t = subst (λ (x : List ℕ). (k : ℕ) × (k < length x) × (get_or x k b ≡ b))
        (targets_get rows' a row low ∙ ap (λ (x : Rows). (get_or x a row).items) is ∙ ap (λ (i : ℕ). (get_or (rows ++ row ∷ []) i row).items) at
        ∙ ap (λ (r : Vec ℕ Global). r.items) (get_or-append_seam rows row [] row) ∙ is_row) has in absurd (below_none t.0 t.1)
  ];
}

pub none_made : (n : ℕ) → (rows : Rows) → HaveNoTargets n rows → HaveTargets n [] rows
none_made n rows h = record { count = h.count; edge = λ a b has. absurd (h.none a b has); target = λ a b has. absurd (false≢true has) }

-- ---- one edge more

edge_more : (edges : List Edge) → (i : ℕ) → (e d : Edge) → i < length edges → e ≡ get_or edges i d → (a b : ℕ)
    → has_edge (map edge_view (take (i + 1) edges)) a b ≡ (has_edge (map edge_view (take i edges)) a b || (leads a b (edge_view e) || false))
edge_more edges i e d h at a b = ap (list_any (leads a b)) (map_more edge_view edges i d h)
    ∙ list_any-append (leads a b) (map edge_view (take i edges)) (edge_view (get_or edges i d) ∷ [])
    ∙ ap (λ (k : Edge). has_edge (map edge_view (take i edges)) a b || (leads a b (edge_view k) || false)) (sym at)

module _ (n : ℕ) (edges : List Edge) (i : ℕ) (e d : Edge) (low : i < length edges) (is_e : e ≡ get_or edges i d) (rows : Rows)
    (made : HaveTargets n (take i edges) rows) (rows' : Rows) (old new : Vec ℕ Global) (within : e.source < length rows)
    (is_old : old ≡ get_or rows e.source old) (is_new : new.items ≡ old.items ++ e.target ∷ []) (is_rows : rows' ≡ set rows e.source new) where
  abbrev Has : List ℕ → ℕ → Type 0
  Has xs b = (k : ℕ) × (k < length xs) × (get_or xs k b ≡ b)

  row_count : length rows' ≡ length rows
  row_count = ap length is_rows ∙ length-set rows e.source new

  row_here : targets_of rows' e.source ≡ old.items ++ e.target ∷ []
  row_here = let c = row_count in targets_get rows' e.source old (omega (arith, c)) ∙ ap (λ (x : Rows). (get_or x e.source old).items) is_rows
      ∙ ap (λ (x : Vec ℕ Global). x.items) (get_or-set_same rows e.source new old within) ∙ is_new

  row_before : targets_of rows e.source ≡ old.items
  row_before = targets_get rows e.source old within ∙ ap (λ (x : Vec ℕ Global). x.items) (sym is_old)

  row_other : (a : ℕ) → a ≢ e.source → a < length rows → targets_of rows' a ≡ targets_of rows a
  row_other a ne h = let c = row_count in targets_get rows' a old (omega (arith, c, h)) ∙ ap (λ (x : Rows). (get_or x a old).items) is_rows
      ∙ ap (λ (x : Vec ℕ Global). x.items) (get_or-set_other rows e.source a new old ne) ∙ sym (targets_get rows a old h)

  split : (xs : List ℕ) → (b : ℕ) → Has (xs ++ e.target ∷ []) b → Has xs b ⊎ (e.target ≡ b)
  split xs b h = let c = length-append xs (e.target ∷ []) in elim (cases_lt h.0 (length xs)) [
    | inl front ↦ inl (h.0, front, sym (get_or_append_left xs (e.target ∷ []) b h.0 front) ∙ h.2)
    | inr last ↦ let one : length (e.target ∷ []) ≡ 1 = refl in let at : length xs ≡ h.0 = omega (arith, c, one, h.1, last) in
        inr (sym (get_or-append_seam xs e.target [] b) ∙ ap (λ (k : ℕ). get_or (xs ++ e.target ∷ []) k b) at ∙ h.2)
  ]

  front_of : (xs : List ℕ) → (b : ℕ) → Has xs b → Has (xs ++ e.target ∷ []) b
  front_of xs b h = let c = length-append xs (e.target ∷ []) in (h.0, omega (arith, c, h.1), get_or_append_left xs (e.target ∷ []) b h.0 h.1 ∙ h.2)

  last_of : (xs : List ℕ) → (b : ℕ) → e.target ≡ b → Has (xs ++ e.target ∷ []) b
  last_of xs b same = let one : length (e.target ∷ []) ≡ 1 = refl in let c = length-append xs (e.target ∷ []) in
      (length xs, omega (arith, c, one), get_or-append_seam xs e.target [] b ∙ same)

  kept : (a b : ℕ) → HasTarget rows a b → HasTarget rows' a b
  kept a b has = elim (cases_eq a e.source) [
    | inl same ↦ subst (λ (x : ℕ). HasTarget rows' x b) (sym same) (subst (λ (x : List ℕ). Has x b) (sym row_here)
        (front_of old.items b (subst (λ (x : List ℕ). Has x b) row_before (subst (λ (x : ℕ). HasTarget rows x b) same has))))
    | inr ne ↦ subst (λ (x : List ℕ). Has x b) (sym (row_other a ne (source_within rows a b has))) has
  ]

  was : (a b : ℕ) → HasTarget rows' a b → HasTarget rows a b ⊎ ((e.source ≡ a) × (e.target ≡ b))
  was a b has = elim (cases_eq a e.source) [
    | inl same ↦ elim (split old.items b (subst (λ (x : List ℕ). Has x b) row_here (subst (λ (x : ℕ). HasTarget rows' x b) same has))) [
      | inl before ↦ inl (subst (λ (x : ℕ). HasTarget rows x b) (sym same) (subst (λ (x : List ℕ). Has x b) (sym row_before) before))
      | inr last ↦ inr (sym same, last)
    ]
    | inr ne ↦ let c = row_count in let h = source_within rows' a b has in
        inl (subst (λ (x : List ℕ). Has x b) (row_other a ne (omega (arith, c, h))) has)
  ]

  pub one_added : HaveTargets n (take (i + 1) edges) rows'
  one_added = record {
    count = row_count ∙ made.count;
    edge = λ a b has. edge_more edges i e d low is_e a b ∙ elim (was a b has) [
      | inl before ↦ or_left (has_edge (map edge_view (take i edges)) a b) (leads a b (edge_view e) || false) (made.edge a b before)
      | inr now ↦ or_right (has_edge (map edge_view (take i edges)) a b) (leads a b (edge_view e) || false)
          (or_left (leads a b (edge_view e)) false (leads_at a b e now.0 now.1))
    ];
    target = λ a b has. elim (or_cases (has_edge (map edge_view (take i edges)) a b) (leads a b (edge_view e) || false)
        (sym (edge_more edges i e d low is_e a b) ∙ has)) [
          | inl before ↦ kept a b (made.target a b before)
          | inr now ↦ elim (or_cases (leads a b (edge_view e)) false now) [
            | inl leads_now ↦ let p = leads_is a b (edge_view e) leads_now in
                subst (λ (x : ℕ). HasTarget rows' x b) p.0 (subst (λ (x : List ℕ). Has x b) (sym row_here) (last_of old.items b p.1))
            | inr never ↦ absurd (false≢true never)
          ]
        ];
  }

-- The nodes that are reached step by step are those to which a node leads.
use Rattle.std.proofs.Common.{◌≡◌, ℕ, zero, suc, ◌+◌, ◌≤◌, ◌<◌, ◌==◌, ◌||◌, not, Bool, true, false, List, [], ◌∷◌, ◌++◌, length, map, filter, refl, sym, ap, ◌∙◌, subst, inl, inr, arith}
use Rattle.std.specs.Prelude.{◌⊎◌, if◌then◌else◌}
use Rattle.std.proofs.lemmas.Bool.{or_cases, or_left, or_right, and_from, and_parts, eqb-true, eq-eqb, false≢true}
use Rattle.std.proofs.lemmas.List.Folds.{list_any-append}
use Rattle.yspec.specs.linking.Graph.{Edge, is_among, leads_out, target_of, reached, is_on_circle}
use Rattle.ybase_graph.specs.Reaching.{leads, has_edge, HasEdge, Reaches, here, along}

among_more : (xs ys : List ℕ) (n : ℕ) → is_among (xs ++ ys) n ≡ (is_among xs n || is_among ys n)
among_more xs ys n = list_any-append (λ m. m == n) xs ys

among_before : (xs ys : List ℕ) (n : ℕ) → is_among xs n ≡ true → is_among (xs ++ ys) n ≡ true
among_before xs ys n h = among_more xs ys n ∙ or_left (is_among xs n) (is_among ys n) h

among_behind : (xs ys : List ℕ) (n : ℕ) → is_among ys n ≡ true → is_among (xs ++ ys) n ≡ true
among_behind xs ys n h = among_more xs ys n ∙ or_right (is_among xs n) (is_among ys n) h

abbrev added : List ℕ → List Edge → List ℕ
added nodes es = map target_of (filter (leads_out nodes) es)

pub edge_first : (e : Edge) (a b : ℕ) → leads a b e ≡ true → (e.source ≡ a) × (e.target ≡ b)
edge_first e a b h = let p = and_parts (e.source == a) (e.target == b) h in (eqb-true e.source a p.0, eqb-true e.target b p.1)

module _ {E : ℕ → ℕ → Type 0} where
  -- one way after another
  pub joined : {a b c : ℕ} → Reaches E a b → Reaches E b c → Reaches E a c
  joined here s = s
  joined (along e r) s = along e (joined r s)

-- ---- what is added is a target of what is there

added_from : (nodes : List ℕ) (es : List Edge) (x : ℕ) → is_among (added nodes es) x ≡ true
    → (a : ℕ) × (is_among nodes a ≡ true) × (has_edge es a x ≡ true)
added_from nodes [] x h = absurd (false≢true h)
added_from nodes (e ∷ es) x h = at_test (added_from nodes es x) (leads_out nodes e) refl h
  where
    at_test : (is_among (added nodes es) x ≡ true → (a : ℕ) × (is_among nodes a ≡ true) × (has_edge es a x ≡ true))
        → (b : Bool) → leads_out nodes e ≡ b
        → is_among (map target_of (if b then e ∷ filter (leads_out nodes) es else filter (leads_out nodes) es)) x ≡ true
        → (a : ℕ) × (is_among nodes a ≡ true) × (has_edge (e ∷ es) a x ≡ true)
    at_test later true is h = elim (or_cases (e.target == x) (is_among (added nodes es) x) h) [
      | inl first ↦ (
        e.source,
        (and_parts (is_among nodes e.source) (not (is_among nodes e.target)) is).0,
        or_left (leads e.source x e) (has_edge es e.source x) (and_from (e.source == e.source) (e.target == x) (eq-eqb e.source e.source refl) first),
      )
      | inr others ↦ let r = later others in (r.0, r.1, or_right (leads r.0 x e) (has_edge es r.0 x) r.2)
    ]
    at_test later false is h = let r = later h in (r.0, r.1, or_right (leads r.0 x e) (has_edge es r.0 x) r.2)

-- ---- what is reached is led to

module _ (edges : List Edge) where
  reached_from : (n : ℕ) (nodes : List ℕ) (x : ℕ) → is_among (reached edges n nodes) x ≡ true
      → (a : ℕ) × (is_among nodes a ≡ true) × Reaches (HasEdge edges) a x
  unfolding reached
  reached_from zero nodes x h = (x, h, here)
  reached_from (suc n) nodes x h = let r = reached_from n (nodes ++ added nodes edges) x h in
      elim (or_cases (is_among nodes r.0) (is_among (added nodes edges) r.0) (sym (among_more nodes (added nodes edges) r.0) ∙ r.1)) [
        | inl before ↦ (r.0, before, r.2)
        | inr now ↦ let f = added_from nodes edges r.0 now in (f.0, f.1, along f.2 r.2)
      ]

-- ---- what is led to is reached

abbrev IsClosed : List Edge → List ℕ → Type 0
IsClosed es nodes = (a b : ℕ) → has_edge es a b ≡ true → is_among nodes a ≡ true → is_among nodes b ≡ true

reaches_within : (edges : List Edge) (nodes : List ℕ) → IsClosed edges nodes → (a x : ℕ) → Reaches (HasEdge edges) a x
    → is_among nodes a ≡ true → is_among nodes x ≡ true
reaches_within edges nodes closed a x here h = h
reaches_within edges nodes closed a x (along {b = b} e r) h = reaches_within edges nodes closed b x r (closed a b e h)

added_has : (nodes : List ℕ) (es : List Edge) (a b : ℕ) → has_edge es a b ≡ true → is_among nodes a ≡ true
    → is_among nodes b ≡ false → is_among (added nodes es) b ≡ true
added_has nodes [] a b has from to = absurd (false≢true has)
added_has nodes (e ∷ es) a b has from to = at_test (added_has nodes es a b) (leads_out nodes e) refl
  where
    at_test : (has_edge es a b ≡ true → is_among nodes a ≡ true → is_among nodes b ≡ false → is_among (added nodes es) b ≡ true)
        → (t : Bool) → leads_out nodes e ≡ t
        → is_among (map target_of (if t then e ∷ filter (leads_out nodes) es else filter (leads_out nodes) es)) b ≡ true
    at_test later true is = elim (or_cases (leads a b e) (has_edge es a b) has) [
      | inl first ↦ or_left (e.target == b) (is_among (added nodes es) b) (and_parts (e.source == a) (e.target == b) first).1
      | inr others ↦ or_right (e.target == b) (is_among (added nodes es) b) (later others from to)
    ]
    at_test later false is = elim (or_cases (leads a b e) (has_edge es a b) has) [
      | inl first ↦ let p = edge_first e a b first in absurd (false≢true (sym is
          ∙ and_from (is_among nodes e.source) (not (is_among nodes e.target)) (ap (is_among nodes) p.0 ∙ from) (ap not (ap (is_among nodes) p.1 ∙ to))))
      | inr others ↦ later others from to
    ]

-- what stands behind an edge of some nodes is among them or is added
covered : (edges : List Edge) (nodes : List ℕ) (a b : ℕ) → has_edge edges a b ≡ true → is_among nodes a ≡ true
    → is_among (nodes ++ added nodes edges) b ≡ true
covered edges nodes a b has from = at_test (is_among nodes b) refl
  where
    at_test : (t : Bool) → is_among nodes b ≡ t → is_among (nodes ++ added nodes edges) b ≡ true
    at_test true is = among_before nodes (added nodes edges) b is
    at_test false is = among_behind nodes (added nodes edges) b (added_has nodes edges a b has from is)

closed_stays : (edges : List Edge) (n : ℕ) (nodes : List ℕ) → IsClosed edges nodes → IsClosed edges (reached edges n nodes)
unfolding reached
closed_stays edges zero nodes closed = closed
closed_stays edges (suc n) nodes closed = closed_stays edges n (nodes ++ added nodes edges) (λ a b has from. covered edges nodes a b has (inside a from))
  where
    inside : (a : ℕ) → is_among (nodes ++ added nodes edges) a ≡ true → is_among nodes a ≡ true
    inside a h = elim (or_cases (is_among nodes a) (is_among (added nodes edges) a) (sym (among_more nodes (added nodes edges) a) ∙ h)) [
      | inl before ↦ before
      | inr now ↦ let f = added_from nodes edges a now in closed f.0 a f.2 f.1
    ]

kept : (edges : List Edge) (n : ℕ) (nodes : List ℕ) (x : ℕ) → is_among nodes x ≡ true → is_among (reached edges n nodes) x ≡ true
unfolding reached
kept edges zero nodes x h = h
kept edges (suc n) nodes x h = kept edges n (nodes ++ added nodes edges) x (among_before nodes (added nodes edges) x h)

-- how many edges have a target that isn't among some nodes
abbrev lacks : Bool → ℕ
lacks true = 0
lacks false = 1

abbrev missing : List ℕ → List Edge → ℕ
missing nodes [] = 0
missing nodes (e ∷ es) = lacks (is_among nodes e.target) + missing nodes es

missing_most : (nodes : List ℕ) (es : List Edge) → missing nodes es ≤ length es
missing_most nodes [] = omega arith
missing_most nodes (e ∷ es) = at_test (is_among nodes e.target) (missing_most nodes es)
  where
    at_test : (t : Bool) → missing nodes es ≤ length es → lacks t + missing nodes es ≤ length (e ∷ es)
    at_test true h = omega (arith, h)
    at_test false h = omega (arith, h)

missing_none : (nodes : List ℕ) (es : List Edge) → missing nodes es ≤ 0 → IsClosed es nodes
missing_none nodes [] few a b has from = absurd (false≢true has)
missing_none nodes (e ∷ es) few a b has from = at_test (is_among nodes e.target) refl few (missing_none nodes es)
  where
    at_test : (t : Bool) → is_among nodes e.target ≡ t → lacks t + missing nodes es ≤ 0 → (missing nodes es ≤ 0 → IsClosed es nodes)
        → is_among nodes b ≡ true
    at_test true is h others = elim (or_cases (leads a b e) (has_edge es a b) has) [
      | inl first ↦ ap (is_among nodes) (sym (edge_first e a b first).1) ∙ is
      | inr more ↦ others (omega (arith, h)) a b more from
    ]
    at_test false is h others = absurd (too_many (missing nodes es) h)
      where
        too_many : (k : ℕ) → 1 + k ≤ 0 → ⊥
        too_many k l = omega (arith, l)

-- more nodes lack no more
missing_fewer : (nodes more : List ℕ) (es : List Edge) → ((x : ℕ) → is_among nodes x ≡ true → is_among more x ≡ true)
    → missing more es ≤ missing nodes es
missing_fewer nodes more [] within = omega arith
missing_fewer nodes more (e ∷ es) within = at_test (is_among nodes e.target) (is_among more e.target) (within e.target) (missing_fewer nodes more es within)
  where
    at_test : (t u : Bool) → (t ≡ true → u ≡ true) → missing more es ≤ missing nodes es
        → lacks u + missing more es ≤ lacks t + missing nodes es
    at_test true true up h = omega (arith, h)
    at_test true false up h = absurd (false≢true (up refl))
    at_test false true up h = omega (arith, h)
    at_test false false up h = omega (arith, h)

-- with what is added fewer are missing, or nothing leads out
missing_less : (nodes more : List ℕ) (es : List Edge) → ((x : ℕ) → is_among nodes x ≡ true → is_among more x ≡ true)
    → ((a b : ℕ) → has_edge es a b ≡ true → is_among nodes a ≡ true → is_among more b ≡ true)
    → (missing more es < missing nodes es) ⊎ IsClosed es nodes
missing_less nodes more [] within cover = inr (λ a b has from. absurd (false≢true has))
missing_less nodes more (e ∷ es) within cover = at_test (is_among nodes e.source) (is_among nodes e.target) (is_among more e.target) refl refl
    (within e.target) (cover e.source e.target (or_left (leads e.source e.target e) (has_edge es e.source e.target)
    (and_from (e.source == e.source) (e.target == e.target) (eq-eqb e.source e.source refl) (eq-eqb e.target e.target refl))))
    (missing_fewer nodes more es within)
    (missing_less nodes more es within (λ a b has. cover a b (or_right (leads a b e) (has_edge es a b) has)))
  where
    closed_more : IsClosed es nodes → (is_among nodes e.source ≡ true → is_among nodes e.target ≡ true) → IsClosed (e ∷ es) nodes
    closed_more others own a b has from = elim (or_cases (leads a b e) (has_edge es a b) has) [
      | inl first ↦ let p = edge_first e a b first in
          ap (is_among nodes) (sym p.1) ∙ own (ap (is_among nodes) p.0 ∙ from)
      | inr more ↦ others a b more from
    ]

    at_test : (s t u : Bool) → is_among nodes e.source ≡ s → is_among nodes e.target ≡ t → (t ≡ true → u ≡ true)
        → (s ≡ true → u ≡ true) → missing more es ≤ missing nodes es → (missing more es < missing nodes es) ⊎ IsClosed es nodes
        → (lacks u + missing more es < lacks t + missing nodes es) ⊎ IsClosed (e ∷ es) nodes
    at_test s true true is_s is_t up from h (inl less) = inl (omega (arith, less))
    at_test s true true is_s is_t up from h (inr closed) = inr (closed_more closed (λ i. is_t))
    at_test s true false is_s is_t up from h d = absurd (false≢true (up refl))
    at_test s false true is_s is_t up from h d = inl (omega (arith, h))
    at_test true false false is_s is_t up from h d = absurd (false≢true (from refl))
    at_test false false false is_s is_t up from h (inl less) = inl (omega (arith, less))
    at_test false false false is_s is_t up from h (inr closed) = inr (closed_more closed (λ i. absurd (false≢true (sym is_s ∙ i))))

closed_behind : (edges : List Edge) (n : ℕ) (nodes : List ℕ) → missing nodes edges ≤ n → IsClosed edges (reached edges n nodes)
unfolding reached
closed_behind edges zero nodes few = missing_none nodes edges few
closed_behind edges (suc n) nodes few = elim (missing_less nodes (nodes ++ added nodes edges) edges
    (λ x h. among_before nodes (added nodes edges) x h) (λ a b has from. covered edges nodes a b has from)) [
      | inl less ↦ closed_behind edges n (nodes ++ added nodes edges) (omega (arith, less, few))
      | inr closed ↦ closed_stays edges (suc n) nodes closed
    ]

-- ---- the test and the relation

pub circle_leads : (edges : List Edge) (e : Edge) → is_on_circle edges e ≡ true → Reaches (HasEdge edges) e.target e.source
circle_leads edges e h = let r = reached_from edges (length edges) (e.target ∷ []) e.source h in
    elim (or_cases (e.target == r.0) false r.1) [
      | inl same ↦ subst (λ (x : ℕ). Reaches (HasEdge edges) x e.source) (sym (eqb-true e.target r.0 same)) r.2
      | inr never ↦ absurd (false≢true never)
    ]

pub leads_circle : (edges : List Edge) (e : Edge) → Reaches (HasEdge edges) e.target e.source → is_on_circle edges e ≡ true
leads_circle edges e r = reaches_within edges (reached edges (length edges) (e.target ∷ []))
    (closed_behind edges (length edges) (e.target ∷ []) (missing_most (e.target ∷ []) edges)) e.target e.source r
    (kept edges (length edges) (e.target ∷ []) e.target (or_left (e.target == e.target) false (eq-eqb e.target e.target refl)))

-- ---- of any nodes to begin with

pub reached_leads : (edges : List Edge) (nodes : List ℕ) (x : ℕ) → is_among (reached edges (length edges) nodes) x ≡ true
    → (a : ℕ) × (is_among nodes a ≡ true) × Reaches (HasEdge edges) a x
reached_leads edges nodes x h = reached_from edges (length edges) nodes x h

pub leads_reached : (edges : List Edge) (nodes : List ℕ) (a x : ℕ) → is_among nodes a ≡ true → Reaches (HasEdge edges) a x
    → is_among (reached edges (length edges) nodes) x ≡ true
leads_reached edges nodes a x there r = reaches_within edges (reached edges (length edges) nodes)
    (closed_behind edges (length edges) nodes (missing_most nodes edges)) a x r (kept edges (length edges) nodes a there)

-- What features ask of one another is an edge between them, and where nothing is told of conditions none lies on a circle.
use Rattle.std.proofs.Common.{◌≡◌, ℕ, zero, suc, Bool, true, false, not, cond, List, [], ◌∷◌, map, Option, Some, None, refl, sym, ap, ap₂, ◌∙◌, inl, inr, arith}
use Rattle.std.specs.Prelude.{◌==◌, ◌&&◌, ◌||◌}
use Rattle.std.specs.List.{Contains, list_any, flat_map, filter_map, cons_option}
use Rattle.std.specs.Option.{option_map_or}
use Rattle.std.proofs.lemmas.Bool.{and_from, and_parts, or_cases, or_left, or_right, false≢true}
use Rattle.std.proofs.lemmas.Bool.Decides.{Decides-eqb}
use Rattle.std.proofs.lemmas.List.Folds.{list_any-append}
use Rattle.yspec.specs.Forest.{Forest}
use Rattle.yspec.specs.linking.Arguments.{Name}
use Rattle.yspec.specs.linking.Graph.{Edge, is_on_circle}
use Rattle.yspec.specs.linking.Scopes.{Placed, statements_of}
use Rattle.yspec.specs.linking.Source.{Source}
use Rattle.yspec.specs.schema.Breaks.{Break}
use Rattle.yspec.proofs.LinkingProofs.BreakLemmas.{none_first, none_second, unbroken}
use Rattle.yspec_wide.specs.Language.{Language}
use Rattle.yspec_wide.specs.Features.{Feature, feature_named, names_asked, is_lost, edge_to, feature_above, feature_edges_at, feature_edges, condition_break, condition_breaks}
use Rattle.yspec_wide.specs.Sources.{is_feature, is_condition, conditions_in}
use Rattle.ybase_graph.specs.Reaching.{leads, has_edge, HasEdge}
use Rattle.ylink_names.specs.ScopeView.{placed_at}
use Rattle.ylink_names.proofs.PlacedLemmas.{below_them}
use Rattle.ylink_standing.proofs.PlaceLemmas.{one_more, condition_placed}

-- ---- edges of lists

leads_there : (a b : ℕ) → leads a b (record { source = a; target = b }) ≡ true
leads_there a b = and_from (a == a) (b == b) ((Decides-eqb a a).1 refl) ((Decides-eqb b b).1 refl)

-- an edge to what is found for one of some
pub edge_made : {A : Type 0} (language : Language) (h : A → Option Feature) (a : ℕ) (xs : List A) (x : A) (g : Feature) → Contains xs x → h x ≡ Some g
    → has_edge (map (edge_to language a) (filter_map h xs)) a g.source.number ≡ true
edge_made language h a [] x g at is = absurd (let within = at.1 in omega (arith, within))
edge_made language h a (y ∷ ys) x g (zero, within, same) is =
    ap (λ o. has_edge (map (edge_to language a) (cons_option o (filter_map h ys))) a g.source.number) (ap h same ∙ is)
    ∙ or_left (leads a g.source.number (edge_to language a g)) (has_edge (map (edge_to language a) (filter_map h ys)) a g.source.number) (leads_there a g.source.number)
edge_made language h a (y ∷ ys) x g (suc k, within, same) is = by (h y) (edge_made language h a ys x g (k, omega (arith, within), same) is)
  where
    by : (o : Option Feature) → has_edge (map (edge_to language a) (filter_map h ys)) a g.source.number ≡ true
        → has_edge (map (edge_to language a) (cons_option o (filter_map h ys))) a g.source.number ≡ true
    by None rest = rest
    by (Some f) rest = or_right (leads a g.source.number (edge_to language a f)) (has_edge (map (edge_to language a) (filter_map h ys)) a g.source.number) rest

module _ (h : Placed → List Edge) where
  -- those of one of some are among those of all
  pub edge_in_all : (ps : List Placed) (p : Placed) (a b : ℕ) → Contains ps p → has_edge (h p) a b ≡ true → has_edge (flat_map h ps) a b ≡ true
  edge_in_all [] p a b at e = absurd (let within = at.1 in omega (arith, within))
  edge_in_all (q ∷ ps) p a b (zero, within, same) e =
      list_any-append (leads a b) (h q) (flat_map h ps)
      ∙ or_left (has_edge (h q) a b) (has_edge (flat_map h ps) a b) (ap (λ r. has_edge (h r) a b) same ∙ e)
  edge_in_all (q ∷ ps) p a b (suc k, within, same) e =
      list_any-append (leads a b) (h q) (flat_map h ps)
      ∙ or_right (has_edge (h q) a b) (has_edge (flat_map h ps) a b) (edge_in_all ps p a b (k, omega (arith, within), same) e)

  pub edge_of_one : (ps : List Placed) (a b : ℕ) → has_edge (flat_map h ps) a b ≡ true → (p : Placed) × Contains ps p × (has_edge (h p) a b ≡ true)
  edge_of_one [] a b e = absurd (false≢true e)
  edge_of_one (q ∷ ps) a b e = elim (or_cases (has_edge (h q) a b) (has_edge (flat_map h ps) a b) (sym (list_any-append (leads a b) (h q) (flat_map h ps)) ∙ e)) [
    | inl own ↦ (q, (0, omega arith, refl), own)
    | inr others ↦ let r = edge_of_one ps a b others in (r.0, one_more q r.0 ps r.1, r.2)
  ]

-- where all is nothing, so is each
pub nothing_at : (h : Placed → List Break) (ps : List Placed) (p : Placed) → flat_map h ps ≡ [] → Contains ps p → h p ≡ []
nothing_at h [] p none at = absurd (let within = at.1 in omega (arith, within))
nothing_at h (q ∷ ps) p none (zero, within, same) = ap h (sym same) ∙ none_first (h q) (flat_map h ps) none
nothing_at h (q ∷ ps) p none (suc k, within, same) = nothing_at h ps p (none_second (h q) (flat_map h ps) none) (k, omega (arith, within), same)

-- ---- what is so of no edge isn't so of one

none_such : (test : Edge → Bool) (es : List Edge) (a b : ℕ) → list_any test es ≡ false → has_edge es a b ≡ true
    → test (record { source = a; target = b }) ≡ false
none_such test [] a b none has = absurd (false≢true has)
none_such test (e ∷ es) a b none has = by (leads a b e) refl has (λ h. none_such test es a b parts.1 h)
  where
    or_neither : (x y : Bool) → (x || y) ≡ false → (x ≡ false) × (y ≡ false)
    or_neither true y is = absurd cc
    or_neither false y is = (refl, is)

    parts : (test e ≡ false) × (list_any test es ≡ false)
    parts = or_neither (test e) (list_any test es) none

    by : (x : Bool) → leads a b e ≡ x → (x || has_edge es a b) ≡ true
        → (has_edge es a b ≡ true → test (record { source = a; target = b }) ≡ false) → test (record { source = a; target = b }) ≡ false
    by true is h later =
        let both = and_parts (e.source == a) (e.target == b) is in
        sym (ap₂ (λ s t. test (record { source = s; target = t })) ((Decides-eqb e.source a).0 both.0) ((Decides-eqb e.target b).0 both.1)) ∙ parts.0
    by false is h later = later h

-- ---- a set of modules of which nothing is told

module _ (language : Language) (modules : Forest Source) (none : condition_breaks language modules ≡ []) where
  -- of each condition
  found_straight : (p : Placed) → Contains (statements_of modules) p → is_condition language p.source ≡ true
      → (is_lost language modules p.source ≡ false) × (list_any (is_on_circle (feature_edges language modules)) (feature_edges_at language modules p) ≡ false)
  found_straight p at is = neither (is_lost language modules p.source)
      (list_any (is_on_circle (feature_edges language modules)) (feature_edges_at language modules p))
      (ap (λ c. c && (is_lost language modules p.source || list_any (is_on_circle (feature_edges language modules)) (feature_edges_at language modules p))) (sym is)
      ∙ unbroken (is_condition language p.source && (is_lost language modules p.source || list_any (is_on_circle (feature_edges language modules)) (feature_edges_at language modules p)))
      22 p.source.home p.source.statement.line
      (nothing_at (condition_break language modules (feature_edges language modules)) (statements_of modules) p none at))
    where
      neither : (x y : Bool) → (true && (x || y)) ≡ false → (x ≡ false) × (y ≡ false)
      neither true y is = absurd cc
      neither false y is = (refl, is)

  -- a feature has an edge to each that a condition of it names
  pub asked_edge : (p : Placed) → Contains (statements_of modules) p → is_feature language p.source ≡ true
      → (s : Source) → Contains (conditions_in language p.below) s → (n : Name) → Contains (names_asked language modules s) n
      → (g : Feature) → feature_named language modules s.home n ≡ Some g → HasEdge (feature_edges language modules) p.source.number g.source.number
  asked_edge p at is_one s at_s n at_n g named =
      let inner : List (Source × Forest Source) = (p.source, p.below) ∷ p.ancestors in
      let found = condition_placed language inner p.below s at_s in
      let q : Placed = placed_at s found.0 inner in
      let inside = below_them [] modules p q at found.1 in
      let so = found_straight q inside found.2 in
      let a = p.source.number in
      let b = g.source.number in
      let edges : Source → List Edge = λ above. map (edge_to language above.number) (filter_map (feature_named language modules s.home) (names_asked language modules s)) in
      edge_in_all (feature_edges_at language modules) (statements_of modules) q a b inside
      (ap₂ (λ c l. has_edge (cond (c && not l) (option_map_or edges (feature_above language q) []) []) a b) found.2 so.0
      ∙ (ap (λ c. has_edge (option_map_or edges (cond c (Some p.source) None) []) a b) is_one
      ∙ edge_made language (feature_named language modules s.home) a (names_asked language modules s) n g at_n named))

  -- and no edge lies on a circle
  pub straight : (a b : ℕ) → HasEdge (feature_edges language modules) a b
      → is_on_circle (feature_edges language modules) (record { source = a; target = b }) ≡ false
  straight a b edge =
      let found = edge_of_one (feature_edges_at language modules) (statements_of modules) a b edge in
      by found.0 found.1 found.2 (is_condition language found.0.source) refl
    where
      by : (p : Placed) → Contains (statements_of modules) p → has_edge (feature_edges_at language modules p) a b ≡ true
          → (c : Bool) → is_condition language p.source ≡ c → is_on_circle (feature_edges language modules) (record { source = a; target = b }) ≡ false
      by p at has true is = none_such (is_on_circle (feature_edges language modules)) (feature_edges_at language modules p) a b (found_straight p at is).1 has
      by p at has false is =
          let edges : Source → List Edge = λ above. map (edge_to language above.number) (filter_map (feature_named language modules p.source.home) (names_asked language modules p.source)) in
          absurd (false≢true (sym (ap (λ c. has_edge (cond (c && not (is_lost language modules p.source)) (option_map_or edges (feature_above language p) []) []) a b) is) ∙ has))

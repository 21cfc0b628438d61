-- The references of a plan as the edges of a graph: where they begin and lead, and which nodes lie on circles.
use Rattle.std.proofs.Common.{◌≡◌, ℕ, zero, suc, ◌≤◌, ◌<◌, ◌==◌, ◌||◌, ◌&&◌, Bool, true, false, List, [], ◌∷◌, length, Option, Some, None, refl, sym, ap, ◌∙◌, subst, inl, inr, arith}
use Rattle.std.specs.Prelude.{◌⊎◌, option_and_then, option_to_list, slice_get}
use Rattle.std.specs.List.{list_any}
use Rattle.std.specs.Option.{option_map_or}
use Rattle.std.proofs.lemmas.Bool.{and_from, and_parts, eq-eqb, eqb-true, false≢true, or_cases, or_left, or_right}
use Rattle.yspec.specs.Forest.{size}
use Rattle.yspec.specs.linking.Graph as graph
use Rattle.yspec.specs.linking.Graph.{Edge}
use Rattle.yspec.specs.linking.TypeStatements.{Meant, own, of_target, of_union}
use Rattle.yspec.specs.linking.Planned.{Planned, Plan, nodes_of, meant_in, path_target, target_meant, targets_meant, leads_to, is_on_circle}
use Rattle.ybase_graph.specs.Reaching.{leads, HasEdge, Reaches, here, along}
use Rattle.ybase_graph.proofs.ReachingLaws.{circle_leads, edge_first, leads_circle}
use Rattle.yschema_types.specs.ReferenceEdges.{nodes_meant, edge_from, edges_by, edges_of}
use Rattle.ybase_graph.proofs.AmongLemmas.{Among, first, later, among_any, any_among, among_map, among_of_map, among_flat, among_of_flat}
use Rattle.ybase_graph.proofs.GrowthLemmas.{full_in_time, kept_from, IsFull}

-- a node stands at its number
abbrev pub Stands : Plan → Planned → Type 0
Stands plan p = slice_get (nodes_of plan) p.number ≡ Some p

pub same_node : (plan : Plan) (p q : Planned) → Stands plan p → Stands plan q → p.number ≡ q.number → p ≡ q
same_node plan p q a b e = ap (λ (o : Option Planned). option_map_or (λ x. x) o p) (sym a ∙ ap (slice_get (nodes_of plan)) e ∙ b)

-- a list and its places
pub placed_at : {X : Type 0} (x : X) (xs : List X) → Among x xs → (i : ℕ) × (slice_get xs i ≡ Some x)
placed_at x xs first = (0, refl)
placed_at x xs (later {xs = zs} at) = let more = placed_at x zs at in (suc more.0, more.1)

pub among_at : {X : Type 0} (x : X) (xs : List X) (i : ℕ) → slice_get xs i ≡ Some x → Among x xs
among_at x [] zero e = absurd cc
among_at x [] (suc i) e = absurd cc
among_at x (y ∷ ys) zero e = let same : y ≡ x = cc in subst (λ z. Among x (z ∷ ys)) (sym same) first
among_at x (y ∷ ys) (suc i) e = later (among_at x ys i e)

pub number_below : {X : Type 0} (x : X) (xs : List X) (i : ℕ) → slice_get xs i ≡ Some x → i < length xs
number_below x [] zero e = absurd cc
number_below x [] (suc i) e = absurd cc
number_below x (y ∷ ys) zero e = omega arith
number_below x (y ∷ ys) (suc i) e = let more = number_below x ys i e in omega (arith, more)

-- `numbers`: nodes stand at their numbers; `stand`: so do those to which they refer
module _ (plan : Plan) (meant : Planned → Option Meant)
    (numbers : (i : ℕ) (p : Planned) → slice_get (nodes_of plan) i ≡ Some p → p.number ≡ i)
    (stand : (p t : Planned) → Among t (nodes_meant plan p (meant p)) → Stands plan t) where
  abbrev edges : List Edge
  edges = edges_of plan meant

  abbrev referred : Planned → List Planned
  referred p = nodes_meant plan p (meant p)

  pub stands_among : (p : Planned) → Among p (nodes_of plan) → Stands plan p
  stands_among p at =
      let place = placed_at p (nodes_of plan) at in
      ap (slice_get (nodes_of plan)) (numbers place.0 p place.1) ∙ place.1

  pub inside : (p : Planned) → Stands plan p → Among p (nodes_of plan)
  inside p stands = among_at p (nodes_of plan) p.number stands

  -- ---- edges

  pub edge_among : (p t : Planned) → Stands plan p → Among t (referred p) → Among (edge_from p.number t) edges
  edge_among p t stands at =
      among_flat (λ q. edges_by plan q (meant q)) p (edge_from p.number t) (nodes_of plan) (inside p stands) (among_map (edge_from p.number) t (referred p) at)

  pub has_edge : (p t : Planned) → Stands plan p → Among t (referred p) → HasEdge edges p.number t.number
  has_edge p t stands at =
      any_among (leads p.number t.number) (edge_from p.number t) edges (edge_among p t stands at)
      (and_from (p.number == p.number) (t.number == t.number) (eq-eqb p.number p.number refl) (eq-eqb t.number t.number refl))

  -- an edge begins at a node, and leads to one to which that refers
  pub record IsReference (e : Edge) : Type 0 where
    pub source : Planned
    pub target : Planned
    pub stands : Stands plan source
    pub refers : Among target (referred source)
    pub from : source.number ≡ e.source
    pub to : target.number ≡ e.target

  pub reference_of : (e : Edge) → Among e edges → IsReference e
  reference_of e at = by (among_of_flat (λ q. edges_by plan q (meant q)) e (nodes_of plan) at)
    where
      by : (p : Planned) × Among p (nodes_of plan) × Among e (edges_by plan p (meant p)) → IsReference e
      by (p, there, made) = one (among_of_map (edge_from p.number) e (referred p) made)
        where
          one : (t : Planned) × Among t (referred p) × (edge_from p.number t ≡ e) → IsReference e
          one (t, refers, is) = record {
            source = p;
            target = t;
            stands = stands_among p there;
            refers = refers;
            from = ap (λ (d : Edge). d.source) is;
            to = ap (λ (d : Edge). d.target) is;
          }

  -- what an edge of a node leads to
  pub edge_led : (q : Planned) (a b : ℕ) → Stands plan q → q.number ≡ a → HasEdge edges a b → (t : Planned) × Among t (referred q) × (t.number ≡ b)
  edge_led q a b stands is has = by (among_any (leads a b) edges has)
    where
      by : (e : Edge) × Among e edges × (leads a b e ≡ true) → (t : Planned) × Among t (referred q) × (t.number ≡ b)
      by (e, at, ends) =
          let r = reference_of e at in
          let both = edge_first e a b ends in
          let same : r.source ≡ q = same_node plan r.source q r.stands stands (r.from ∙ (both.0 ∙ sym is)) in
          (r.target, subst (λ p. Among r.target (referred p)) same r.refers, r.to ∙ both.1)

  pub edges_inside : (e : Edge) → Among e edges → (e.source < length (nodes_of plan)) × (e.target < length (nodes_of plan))
  edges_inside e at =
      let r = reference_of e at in
      let source = number_below r.source (nodes_of plan) r.source.number r.stands in
      let target = number_below r.target (nodes_of plan) r.target.number (stand r.source r.target r.refers) in
      let from = r.from in
      let to = r.to in
      let low : e.source < length (nodes_of plan) = omega (arith, source, from) in
      let lower : e.target < length (nodes_of plan) = omega (arith, target, to) in
      (low, lower)

-- ---- circles

leads_none : (plan : Plan) (g : ℕ) (p : Planned) → leads_to plan zero g p ≡ false
unfolding leads_to
leads_none plan g p = refl

-- a node leads where one leads to which it refers
leads_on : (plan : Plan) (s g : ℕ) (p : Planned)
    → leads_to plan (suc s) g p ≡ list_any (λ t. t.number == g || leads_to plan s g t) (nodes_meant plan p (meant_in plan p))
unfolding leads_to
leads_on plan s g p = by (meant_in plan p)
  where
    test : Planned → Bool
    test t = t.number == g || leads_to plan s g t

    one : (o : Option Planned) → (option_map_or test o false || false) ≡ list_any test (option_to_list o)
    one None = refl
    one (Some t) = refl

    by : (o : Option Meant) → (option_map_or test (option_and_then (target_meant plan p) o) false || list_any test (option_map_or (targets_meant plan p) o []))
        ≡ list_any test (nodes_meant plan p o)
    by None = refl
    by (Some (own type)) = refl
    by (Some (of_target home steps required)) = one (path_target plan p home steps)
    by (Some (of_union members)) = refl

module _ (plan : Plan) (counted : length (nodes_of plan) ≡ size plan.nodes)
    (numbers : (i : ℕ) (p : Planned) → slice_get (nodes_of plan) i ≡ Some p → p.number ≡ i)
    (stand : (p t : Planned) → Among t (nodes_meant plan p (meant_in plan p)) → Stands plan t) where
  abbrev all : List Edge
  all = edges_of plan (meant_in plan)

  abbrev behind : Planned → List Planned
  behind p = nodes_meant plan p (meant_in plan p)

  abbrev leads_within : ℕ → ℕ → Planned → Bool
  leads_within g s t = t.number == g || leads_to plan s g t

  more_lead : (g s : ℕ) (p : Planned) → leads_to plan s g p ≡ true → leads_to plan (suc s) g p ≡ true
  more_lead g zero p h = absurd (false≢true (sym (leads_none plan g p) ∙ h))
  more_lead g (suc s) p h = by (among_any (leads_within g s) (behind p) (sym (leads_on plan s g p) ∙ h)) (λ t. more_lead g s t)
    where
      by : (t : Planned) × Among t (behind p) × (leads_within g s t ≡ true) → ((t : Planned) → leads_to plan s g t ≡ true → leads_to plan (suc s) g t ≡ true)
          → leads_to plan (suc (suc s)) g p ≡ true
      by (t, at, holds) inner = leads_on plan (suc s) g p ∙ any_among (leads_within g (suc s)) t (behind p) at (elim (or_cases (t.number == g) (leads_to plan s g t) holds) [
        | inl same ↦ or_left (t.number == g) (leads_to plan (suc s) g t) same
        | inr further ↦ or_right (t.number == g) (leads_to plan (suc s) g t) (inner t further)
      ])

  -- along edges
  led : (s g : ℕ) (p : Planned) → Stands plan p → leads_to plan s g p ≡ true → (t : Planned) × Among t (behind p) × Reaches (HasEdge all) t.number g
  led zero g p stands h = absurd (false≢true (sym (leads_none plan g p) ∙ h))
  led (suc s) g p stands h = by (among_any (leads_within g s) (behind p) (sym (leads_on plan s g p) ∙ h)) (λ t. led s g t)
    where
      by : (t : Planned) × Among t (behind p) × (leads_within g s t ≡ true)
          → ((t : Planned) → Stands plan t → leads_to plan s g t ≡ true → (u : Planned) × Among u (behind t) × Reaches (HasEdge all) u.number g)
          → (t : Planned) × Among t (behind p) × Reaches (HasEdge all) t.number g
      by (t, at, holds) inner = one (or_cases (t.number == g) (leads_to plan s g t) holds)
        where
          one : ((t.number == g) ≡ true) ⊎ (leads_to plan s g t ≡ true) → (t : Planned) × Among t (behind p) × Reaches (HasEdge all) t.number g
          one (inl same) = (t, at, subst (λ n. Reaches (HasEdge all) t.number n) (eqb-true t.number g same) here)
          one (inr further) =
              let there = stand p t at in
              let rest = inner t there further in
              (t, at, along (has_edge plan (meant_in plan) numbers stand t rest.0 there rest.1) rest.2)

  -- and back, where one step more changes nothing
  led_back : (g j : ℕ) → IsFull (λ s. leads_to plan s g) (more_lead g) (nodes_of plan) j → (p t : Planned) → Stands plan p → Among t (behind p)
      → (a b : ℕ) → t.number ≡ a → b ≡ g → Reaches (HasEdge all) a b → leads_to plan j g p ≡ true
  led_back g j full p t stands at a b is goal here =
      full p (inside plan (meant_in plan) numbers stand p stands)
      (leads_on plan j g p ∙ any_among (leads_within g j) t (behind p) at (or_left (t.number == g) (leads_to plan j g t) (eq-eqb t.number g (is ∙ goal))))
  led_back g j full p t stands at a b is goal (along {b = m} edge way) =
      let there = stand p t at in
      let next = edge_led plan (meant_in plan) numbers stand t a m there is edge in
      full p (inside plan (meant_in plan) numbers stand p stands)
      (leads_on plan j g p ∙ any_among (leads_within g j) t (behind p) at
      (or_right (t.number == g) (leads_to plan j g t) (led_back g j full t next.0 there next.1 m b next.2 goal way)))

  leads_back : (p t : Planned) → Stands plan p → Among t (behind p) → Reaches (HasEdge all) t.number p.number → is_on_circle plan p ≡ true
  leads_back p t stands at way =
      let g = p.number in
      let found = full_in_time (λ s. leads_to plan s g) (more_lead g) (nodes_of plan) in
      let low = found.1 in
      let enough : found.0 ≤ size plan.nodes = omega (arith, low, counted) in
      kept_from (λ s. leads_to plan s g) (more_lead g) found.0 (size plan.nodes) p enough (led_back g found.0 found.2 p t stands at t.number g refl refl way)

  same_bool : (x y : Bool) → (x ≡ true → y ≡ true) → (y ≡ true → x ≡ true) → x ≡ y
  same_bool true y there back = sym (there refl)
  same_bool false true there back = back refl
  same_bool false false there back = refl

  abbrev begins_on : ℕ → Edge → Bool
  begins_on number e = e.source == number && graph.is_on_circle all e

  -- a node lies on a circle where an edge begins there that does
  pub circle_of_node : (p : Planned) → Stands plan p → list_any (begins_on p.number) all ≡ is_on_circle plan p
  circle_of_node p stands = same_bool (list_any (begins_on p.number) all) (is_on_circle plan p) forth back
    where
      forth : list_any (begins_on p.number) all ≡ true → is_on_circle plan p ≡ true
      forth h = by (among_any (begins_on p.number) all h)
        where
          by : (e : Edge) × Among e all × (begins_on p.number e ≡ true) → is_on_circle plan p ≡ true
          by (e, at, holds) =
              let parts = and_parts (e.source == p.number) (graph.is_on_circle all e) holds in
              let r = reference_of plan (meant_in plan) numbers stand e at in
              let same : r.source ≡ p = same_node plan r.source p r.stands stands (r.from ∙ eqb-true e.source p.number parts.0) in
              let way = circle_leads all e parts.1 in
              leads_back p r.target stands (subst (λ q. Among r.target (behind q)) same r.refers)
              (subst (λ n. Reaches (HasEdge all) n p.number) (sym r.to) (subst (λ n. Reaches (HasEdge all) e.target n) (eqb-true e.source p.number parts.0) way))

      back : is_on_circle plan p ≡ true → list_any (begins_on p.number) all ≡ true
      back h =
          let way = led (size plan.nodes) p.number p stands h in
          let e : Edge = edge_from p.number way.0 in
          any_among (begins_on p.number) e all (edge_among plan (meant_in plan) numbers stand p way.0 stands way.1)
          (and_from (p.number == p.number) (graph.is_on_circle all e) (eq-eqb p.number p.number refl) (leads_circle all e way.2))

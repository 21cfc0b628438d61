-- Derivation by edges one after another.
use Rattle.std.proofs.Common.{◌≡◌, ℕ, ◌==◌, Bool, true, false, List, [], ◌∷◌, map, filter, refl, sym, ◌∙◌, inl, inr}
use Rattle.std.specs.Prelude.{◌↔◌, if◌then◌else◌}
use Rattle.std.proofs.lemmas.Bool.{or_cases, or_left, or_right, and_from, and_parts, false≢true}
use Rattle.yspec.specs.linking.Graph.{Edge, is_among, target_of}
use Rattle.ybase_graph.specs.Reaching.{leads, has_edge, HasEdge, Reaches, here, along}
use Rattle.ybase_graph.specs.Derivation.{derives, Derives, by_one, by_more}
use Rattle.ybase_graph.proofs.ReachingLaws.{reached_leads, leads_reached}

abbrev targets : ℕ → List Edge → List ℕ
targets a es = map target_of (filter (λ e. e.source == a) es)

target_edge : (es : List Edge) (a b : ℕ) → is_among (targets a es) b ≡ true → has_edge es a b ≡ true
target_edge [] a b h = absurd (false≢true h)
target_edge (e ∷ es) a b h = at_test (target_edge es a b) (e.source == a) refl h
  where
    at_test : (is_among (targets a es) b ≡ true → has_edge es a b ≡ true) → (t : Bool) → (e.source == a) ≡ t
        → is_among (map target_of (if t then e ∷ filter (λ e. e.source == a) es else filter (λ e. e.source == a) es)) b ≡ true
        → has_edge (e ∷ es) a b ≡ true
    at_test later true is h = elim (or_cases (e.target == b) (is_among (targets a es) b) h) [
      | inl first ↦ or_left (leads a b e) (has_edge es a b) (and_from (e.source == a) (e.target == b) is first)
      | inr others ↦ or_right (leads a b e) (has_edge es a b) (later others)
    ]
    at_test later false is h = or_right (leads a b e) (has_edge es a b) (later h)

edge_target : (es : List Edge) (a b : ℕ) → has_edge es a b ≡ true → is_among (targets a es) b ≡ true
edge_target [] a b h = absurd (false≢true h)
edge_target (e ∷ es) a b h = at_test (edge_target es a b) (e.source == a) refl
  where
    at_test : (has_edge es a b ≡ true → is_among (targets a es) b ≡ true) → (t : Bool) → (e.source == a) ≡ t
        → is_among (map target_of (if t then e ∷ filter (λ e. e.source == a) es else filter (λ e. e.source == a) es)) b ≡ true
    at_test later true is = elim (or_cases (leads a b e) (has_edge es a b) h) [
      | inl first ↦ or_left (e.target == b) (is_among (targets a es) b) (and_parts (e.source == a) (e.target == b) first).1
      | inr others ↦ or_right (e.target == b) (is_among (targets a es) b) (later others)
    ]
    at_test later false is = elim (or_cases (leads a b e) (has_edge es a b) h) [
      | inl first ↦ absurd (false≢true (sym is ∙ (and_parts (e.source == a) (e.target == b) first).0))
      | inr others ↦ later others
    ]

module _ {E : ℕ → ℕ → Type 0} where
  one_more : {a b c : ℕ} → E a b → Reaches E b c → Derives E a c
  one_more e here = by_one e
  one_more e (along f r) = by_more e (one_more f r)

  pub first_edge : {a c : ℕ} → Derives E a c → (b : ℕ) × E a b × Reaches E b c
  first_edge (by_one {b = b} e) = (b, e, here)
  first_edge (by_more {b = b} e d) = let r = first_edge d in (b, e, along r.1 r.2)

pub derives_so : (edges : List Edge) (a b : ℕ) → (derives edges a b ≡ true) ↔ Derives (HasEdge edges) a b
derives_so edges a b = (
  (λ h. let r = reached_leads edges (targets a edges) b h in one_more (target_edge edges a r.0 r.1) r.2),
  (λ d. let r = first_edge d in leads_reached edges (targets a edges) r.0 b (edge_target edges a r.0 r.1) r.2),
)

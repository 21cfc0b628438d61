-- Definitions that statements name, and where they stand in an order.
use Rattle.std.proofs.Common.{◌≡◌, ℕ, suc, ◌<◌, Bool, true, false, List, [], ◌∷◌, length, get_or, Option, Some, None, refl, ap, ◌∙◌, arith}
use Rattle.std.specs.Prelude.{option_map, option_and_then, ◌==◌, ◌||◌}
use Rattle.std.specs.List.{Contains, filter_map, cons_option}
use Rattle.std.proofs.lemmas.Bool.{and_parts}
use Rattle.std.proofs.lemmas.Bool.Decides.{Decides-eqb}
use Rattle.std.proofs.lemmas.List.{get_or_default}
use Rattle.std.proofs.lemmas.Map.Views.{Contains-from_any}
use Rattle.yspec.specs.Forest.{Forest}
use Rattle.yspec.specs.linking.Circles.{referring, definition_edge, definition_edges}
use Rattle.yspec.specs.linking.Scopes.{Placed, statements_of, meaning}
use Rattle.yspec.specs.linking.Source.{Source}
use Rattle.ybase_graph.specs.Reaching.{leads, has_edge, HasEdge}
use Rattle.ybase_preorder.specs.Layout.{numbered_by}
use Rattle.ylink_grammar.specs.declared.source.Source as held
use Rattle.ylink_grammar.specs.SourceView.{source_view}
use Rattle.ylink_names.specs.MeaningView.{number_meant}
use Rattle.ylink_names.specs.Ordered.{IsNamed, AreInOrder}
use Rattle.ylink_names.proofs.PlacedLemmas.{stands_at}

-- one of some statements names the definition of a number
abbrev pub IsMeantBy : Forest Source → List Placed → ℕ → Type 0
IsMeantBy modules ps e = (p : Placed) × Contains ps p × (number_meant modules p ≡ Some e)

edge_meant : (modules : Forest Source) (ps : List Placed) (a b : ℕ) → has_edge (filter_map (definition_edge modules) ps) a b ≡ true → IsMeantBy modules ps b
edge_meant modules [] a b e = absurd cc
edge_meant modules (p ∷ ps) a b e = by (meaning modules p) refl e (λ rest. further (edge_meant modules ps a b rest))
  where
    further : IsMeantBy modules ps b → IsMeantBy modules (p ∷ ps) b
    further found = let at = found.1 in let within = at.1 in (found.0, (suc at.0, omega (arith, within), at.2), found.2)

    first : (d : Source) (r : ℕ) (y : Bool) → meaning modules p ≡ Some d → leads a b (record { source = r; target = d.number }) ≡ y
        → (y || has_edge (filter_map (definition_edge modules) ps) a b) ≡ true
        → (has_edge (filter_map (definition_edge modules) ps) a b ≡ true → IsMeantBy modules (p ∷ ps) b) → IsMeantBy modules (p ∷ ps) b
    first d r true meant is e later = (
      p,
      (0, omega arith, refl),
      ap (option_map (λ (x : Source). x.number)) meant ∙ ap (λ n. Some n) ((Decides-eqb d.number b).0 (and_parts (r == a) (d.number == b) is).1),
    )
    first d r false meant is e later = later e

    referred : (d : Source) (o : Option ℕ) → meaning modules p ≡ Some d
        → has_edge (cons_option (option_map (λ (r : ℕ). record { source = r; target = d.number }) o) (filter_map (definition_edge modules) ps)) a b ≡ true
        → (has_edge (filter_map (definition_edge modules) ps) a b ≡ true → IsMeantBy modules (p ∷ ps) b) → IsMeantBy modules (p ∷ ps) b
    referred d None meant e later = later e
    referred d (Some r) meant e later = first d r (leads a b (record { source = r; target = d.number })) meant refl e later

    by : (o : Option Source) → meaning modules p ≡ o
        → has_edge (cons_option (option_and_then (λ (d : Source). option_map (λ (r : ℕ). record { source = r; target = d.number }) (referring p)) o) (filter_map (definition_edge modules) ps)) a b ≡ true
        → (has_edge (filter_map (definition_edge modules) ps) a b ≡ true → IsMeantBy modules (p ∷ ps) b) → IsMeantBy modules (p ∷ ps) b
    by None meant e later = later e
    by (Some d) meant e later = referred d (referring p) meant e later

-- what an edge leads to is named
pub edge_named : (f : Forest held.Source) (a b : ℕ) → HasEdge (definition_edges (numbered_by source_view 0 f)) a b → IsNamed (numbered_by source_view 0 f) b
edge_named f a b edge =
    let modules = numbered_by source_view 0 f in
    let found = edge_meant modules (statements_of modules) a b edge in
    let p = found.0 in
    (p.source.number, ap (λ o. option_map (λ (d : Source). d.number) (option_and_then (meaning modules) o)) (stands_at f p found.1) ∙ found.2)

-- what is named stands in the order
pub place_of : (nodes : List ℕ) (modules : Forest Source) → AreInOrder nodes modules → (e : ℕ) → IsNamed modules e
    → (j : ℕ) × (j < length nodes) × (get_or nodes j 0 ≡ e)
place_of nodes modules order e named =
    let at = Contains-from_any {eq = λ x y. x == y} (λ x y. (Decides-eqb x y).0) e nodes (order.among e named) in
    let inside = at.1 in
    (at.0, inside, get_or_default nodes at.0 0 e inside ∙ at.2)

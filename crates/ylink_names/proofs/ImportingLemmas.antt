-- Edges of imports, statement by statement, and which lie on circles.
use Rattle.std.proofs.Common.{◌≡◌, ℕ, ◌≤◌, Bool, false, List, [], ◌∷◌, ◌++◌, length, drop, map, Option, Some, None, refl, sym, ap, ap₂, ◌∙◌, arith}
use Rattle.std.specs.Prelude.{option_map}
use Rattle.std.specs.List.{filter_map, flat_map, cons_option}
use Rattle.std.specs.Option.{option_map_or}
use Rattle.std.proofs.lemmas.Grind.{flat_map-append}
use Rattle.std.proofs.lemmas.List.{append-nil, at_drop_all, map-append}
use Rattle.yspec.proofs.LinkingProofs.PlacedLemmas.{flat_placed}
use Rattle.yspec.specs.Forest.{Forest, end, node, preorder}
use Rattle.yspec.specs.linking.Circles.{import_edge, import_edges, import_circle, import_circles, circle_break, is_circular}
use Rattle.yspec.specs.linking.Graph as spec
use Rattle.yspec.specs.linking.Graph.{is_on_circle}
use Rattle.yspec.specs.linking.Scopes.{Placed, placed, statements_of}
use Rattle.yspec.specs.linking.Source.{Source}
use Rattle.ybase_graph.specs.Edges.{edge_view}
use Rattle.ybase_graph.specs.declared.circles.Edge.{Edge}
use Rattle.ybase_preorder.specs.Layout.{labels_by}
use Rattle.ybase_preorder.specs.declared.slot.Slot.{Slot}
use Rattle.ylink_grammar.specs.declared.source.Source as held
use Rattle.ylink_grammar.specs.SourceView.{source_view}
use Rattle.ylink_names.specs.EdgeView.{circles_by}
use Rattle.ylink_names.proofs.EdgeLemmas.{seen_flags, map_both, present_view, filter_mapped}

module _ (modules : Forest Source) (rows : List (Slot held.Source)) (i : ℕ) (so_far : List (Option Edge)) where
  pub all_import_edges : (whole : List (Option spec.Edge)) → length rows ≤ i
      → map (option_map edge_view) so_far ++ map (import_edge modules) (labels_by source_view i (drop i rows)) ≡ whole → map (option_map edge_view) so_far ≡ whole
  all_import_edges whole ended made =
      sym (append-nil (map (option_map edge_view) so_far))
      ∙ (ap (λ l. map (option_map edge_view) so_far ++ l) (sym (at_drop_all (λ rs. map (import_edge modules) (labels_by source_view i rs)) rows i ended)) ∙ made)

pub nothing_in : {A : Type 0} (xs : List A) → length xs ≡ 0 → xs ≡ []
nothing_in [] none = refl
nothing_in (x ∷ xs) none = absurd (omega (arith, none))

-- ---- the statements of a set, with what is around them and without

sources_placed : {A : Type 0} (f : Source → A) (ancestors : List (Source × Forest Source)) (g : Forest Source) → map (λ (p : Placed). f p.source) (placed ancestors g) ≡ map f (preorder g)
unfolding placed
sources_placed f ancestors end = refl
sources_placed f ancestors (node s below after) =
    let under = placed ((s, below) ∷ ancestors) below in
    ap (λ l. f s ∷ l) (map-append (λ (p : Placed). f p.source) under (placed ancestors after)
    ∙ (ap₂ (λ a b. a ++ b) (sources_placed f ((s, below) ∷ ancestors) below) (sources_placed f ancestors after)
    ∙ sym (map-append f (preorder below) (preorder after))))

module _ (modules : Forest Source) where
  abbrev pub flag_of : Placed → Bool
  flag_of p = is_circular (import_edges modules) (import_edge modules p.source)

  pub circles_of_imports : circles_by flag_of modules ≡ import_circles modules
  circles_of_imports = flat_placed (import_circle modules (import_edges modules)) [] modules

  pub edges_found : (table : List (Option Edge)) (found : List Edge)
      → map (option_map edge_view) table ≡ map (import_edge modules) (preorder modules) → found ≡ filter_map (λ e. e) table
      → map edge_view found ≡ import_edges modules
  edges_found table found is found_is =
      ap (map edge_view) found_is ∙ (present_view table ∙ (ap (filter_map (λ e. e)) is ∙ filter_mapped (import_edge modules) (preorder modules)))

  -- without edges there are no circles
  pub no_circles : import_edges modules ≡ [] → import_circles modules ≡ []
  no_circles none = by (preorder modules) none
    where
      by : (ss : List Source) → filter_map (import_edge modules) ss ≡ [] → flat_map (import_circle modules (import_edges modules)) ss ≡ []
      by [] none = refl
      by (s ∷ ss) none = first (import_edge modules s) none (by ss)
        where
          first : (o : Option spec.Edge) → cons_option o (filter_map (import_edge modules) ss) ≡ []
              → (filter_map (import_edge modules) ss ≡ [] → flat_map (import_circle modules (import_edges modules)) ss ≡ [])
              → circle_break (import_edges modules) o s ++ flat_map (import_circle modules (import_edges modules)) ss ≡ []
          first None none rest = rest none
          first (Some e) none rest = absurd cc

  pub import_flags : (table : List (Option Edge)) (found : List Edge)
      → map (option_map edge_view) table ≡ map (import_edge modules) (preorder modules) → found ≡ filter_map (λ e. e) table
      → map (λ e. option_map_or (λ x. is_on_circle (map edge_view found) (edge_view x)) e false) table ≡ map flag_of (statements_of modules)
  import_flags table found is found_is =
      let sources = preorder modules in
      let all = edges_found table found is found_is in
      seen_flags (map edge_view found) table
      ∙ (ap₂ (λ a es. map (is_circular a) es) all is
      ∙ (map_both (is_circular (import_edges modules)) (import_edge modules) sources
      ∙ sym (sources_placed (λ s. is_circular (import_edges modules) (import_edge modules s)) [] modules)))

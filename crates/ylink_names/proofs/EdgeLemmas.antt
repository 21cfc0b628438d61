-- Edges of definitions, one statement after another.
use Rattle.std.proofs.Common.{◌≡◌, ℕ, zero, suc, ◌+◌, ◌<◌, ◌≤◌, false, List, [], ◌∷◌, ◌++◌, length, get_or, drop, map, Option, Some, None, refl, sym, ap, ap₂, ◌∙◌, arith}
use Rattle.std.specs.Prelude.{option_map, option_and_then}
use Rattle.std.specs.List.{filter_map, cons_option}
use Rattle.std.specs.Option.{option_map_or}
use Rattle.std.proofs.lemmas.List.{append_assoc, append-nil, at_drop_more, at_drop_all, length-append, map-append}
use Rattle.yspec.specs.Forest.{Forest}
use Rattle.yspec.specs.linking.Circles.{referring, definition_edge, definition_edges, is_circular}
use Rattle.yspec.specs.linking.Graph as spec
use Rattle.yspec.specs.linking.Graph.{is_on_circle}
use Rattle.yspec.specs.linking.Scopes.{Placed, meaning, statements_of}
use Rattle.yspec.specs.linking.Source.{Source}
use Rattle.ybase_graph.specs.Edges.{edge_view}
use Rattle.ybase_graph.specs.declared.circles.Edge.{Edge}
use Rattle.ylink_names.specs.EdgeView.{edge_by, edges_from}
use Rattle.ylink_names.specs.MeaningView.{meaning_at, number_meant, AreMeanings}
use Rattle.ylink_names.specs.ReferringView.{AreReferring}
use Rattle.ylink_names.proofs.NumberedLemmas.{get_behind}

-- what is held at a number
get_at : (ms : List (Option ℕ)) (i : ℕ) → i < length ms → meaning_at ms i ≡ get_or ms i None
get_at [] i within = absurd (omega arith)
get_at (m ∷ ms) zero within = refl
get_at (m ∷ ms) (suc i) within = get_at ms i (omega arith)

module _ (holders meanings : List (Option ℕ)) (i : ℕ) (so_far : List (Option Edge)) (whole : List (Option spec.Edge)) where
  pub next_edge : (more : List (Option Edge)) (e : Option Edge) → i < length meanings
      → more ≡ so_far ++ e ∷ [] → option_map edge_view e ≡ edge_by (meaning_at holders i) (meaning_at meanings i)
      → map (option_map edge_view) so_far ++ edges_from holders i (drop i meanings) ≡ whole
      → map (option_map edge_view) more ++ edges_from holders (i + 1) (drop (i + 1) meanings) ≡ whole
  next_edge more e within pushed is made =
      let rest = edges_from holders (i + 1) (drop (i + 1) meanings) in
      let seen = map (option_map edge_view) so_far in
      ap (λ l. map (option_map edge_view) l ++ rest) pushed
      ∙ (ap (λ l. l ++ rest) (map-append (option_map edge_view) so_far (e ∷ []))
      ∙ (append_assoc seen (option_map edge_view e ∷ []) rest
      ∙ (ap (λ x. seen ++ x ∷ rest) (is ∙ ap (edge_by (meaning_at holders i)) (get_at meanings i within))
      ∙ (sym (ap (λ l. seen ++ l) (at_drop_more (edges_from holders i) meanings i None within)) ∙ made))))

  pub all_edges : length meanings ≤ i → map (option_map edge_view) so_far ++ edges_from holders i (drop i meanings) ≡ whole
      → map (option_map edge_view) so_far ≡ whole
  all_edges ended made =
      sym (append-nil (map (option_map edge_view) so_far))
      ∙ (ap (λ l. map (option_map edge_view) so_far ++ l) (sym (at_drop_all (edges_from holders i) meanings i ended)) ∙ made)

-- ---- the edges that there are

pub present_view : (es : List (Option Edge)) → map edge_view (filter_map (λ e. e) es) ≡ filter_map (λ e. e) (map (option_map edge_view) es)
present_view [] = refl
present_view (None ∷ es) = present_view es
present_view (Some e ∷ es) = ap (λ l. edge_view e ∷ l) (present_view es)

edge_of_both : (modules : Forest Source) (p : Placed) → edge_by (referring p) (number_meant modules p) ≡ definition_edge modules p
edge_of_both modules p = by (meaning modules p)
  where
    by : (o : Option Source) → edge_by (referring p) (option_map (λ d. d.number) o)
        ≡ option_and_then (λ d. option_map (λ a. record { source = a; target = d.number }) (referring p)) o
    by None = refl
    by (Some d) = refl

from_both : (modules : Forest Source) (ps : List Placed) (before : List (Option ℕ)) (k : ℕ) → length before ≡ k
    → edges_from (before ++ map referring ps) k (map (number_meant modules) ps) ≡ map (definition_edge modules) ps
from_both modules [] before k count = refl
from_both modules (p ∷ ps) before k count =
    let one : length (before ++ referring p ∷ []) ≡ k + 1 = length-append before (referring p ∷ []) ∙ omega (arith, count) in
    let here : meaning_at (before ++ referring p ∷ map referring ps) k ≡ referring p =
    ap (option_and_then (λ m. m)) (get_behind before (map referring ps) (referring p) k count) in
    ap₂ (λ e es. e ∷ es) (ap (λ r. edge_by r (number_meant modules p)) here ∙ edge_of_both modules p)
    (ap (λ hs. edges_from hs (k + 1) (map (number_meant modules) ps)) (sym (append_assoc before (referring p ∷ []) (map referring ps)))
    ∙ from_both modules ps (before ++ referring p ∷ []) (k + 1) one)

pub by_statement : (modules : Forest Source) (holders meanings : List (Option ℕ)) → AreReferring holders modules → AreMeanings meanings modules
    → edges_from holders 0 meanings ≡ map (definition_edge modules) (statements_of modules)
by_statement modules holders meanings held meant =
    ap₂ (λ hs ms. edges_from hs 0 ms) held meant ∙ from_both modules (statements_of modules) [] 0 refl

pub filter_mapped : {A B : Type 0} (f : A → Option B) (xs : List A) → filter_map (λ e. e) (map f xs) ≡ filter_map f xs
filter_mapped f [] = refl
filter_mapped f (x ∷ xs) = ap (cons_option (f x)) (filter_mapped f xs)

pub all_present : (modules : Forest Source) (holders meanings : List (Option ℕ)) (table : List (Option Edge)) (made : List Edge)
    → AreReferring holders modules → AreMeanings meanings modules
    → map (option_map edge_view) table ≡ edges_from holders 0 meanings → made ≡ filter_map (λ e. e) table
    → map edge_view made ≡ definition_edges modules
all_present modules holders meanings table made held meant is made_is =
    ap (map edge_view) made_is ∙ (present_view table ∙ (ap (filter_map (λ e. e)) (is ∙ by_statement modules holders meanings held meant)
    ∙ filter_mapped (definition_edge modules) (statements_of modules)))

-- ---- which lie on circles

pub seen_flags : (all : List spec.Edge) (es : List (Option Edge))
    → map (λ e. option_map_or (λ x. is_on_circle all (edge_view x)) e false) es ≡ map (is_circular all) (map (option_map edge_view) es)
seen_flags all [] = refl
seen_flags all (None ∷ es) = ap (λ l. false ∷ l) (seen_flags all es)
seen_flags all (Some e ∷ es) = ap (λ l. is_on_circle all (edge_view e) ∷ l) (seen_flags all es)

pub map_both : {A B C : Type 0} (f : B → C) (g : A → B) (xs : List A) → map f (map g xs) ≡ map (λ x. f (g x)) xs
map_both f g [] = refl
map_both f g (x ∷ xs) = ap (λ l. f (g x) ∷ l) (map_both f g xs)

pub circular_flags : (modules : Forest Source) (holders meanings : List (Option ℕ)) (table : List (Option Edge)) (found : List Edge)
    → AreReferring holders modules → AreMeanings meanings modules
    → map (option_map edge_view) table ≡ edges_from holders 0 meanings → found ≡ filter_map (λ e. e) table
    → map (λ e. option_map_or (λ x. is_on_circle (map edge_view found) (edge_view x)) e false) table
    ≡ map (λ p. is_circular (definition_edges modules) (definition_edge modules p)) (statements_of modules)
circular_flags modules holders meanings table found held meant is found_is =
    let all = map edge_view found in
    let statements = statements_of modules in
    seen_flags all table ∙ (ap (map (is_circular all)) (is ∙ by_statement modules holders meanings held meant)
    ∙ (map_both (is_circular all) (definition_edge modules) statements
    ∙ ap (λ edges. map (λ p. is_circular edges (definition_edge modules p)) statements) (all_present modules holders meanings table found held meant is found_is)))

-- One statement after another is told of, in an order that is given.
use Rattle.std.proofs.Common.{◌≡◌, ℕ, zero, suc, ◌+◌, ◌<◌, ◌≤◌, Bool, true, false, List, [], ◌∷◌, length, get_or, slice_set, Option, Some, refl, sym, ap, ap₂, ◌∙◌, arith}
use Rattle.std.specs.Prelude.{◌&&◌, slice_get}
use Rattle.std.specs.List.{Contains, range_with_len}
use Rattle.std.specs.List.Sorted.{IsPermutation}
use Rattle.std.specs.Option.{option_map_or}
use Rattle.std.proofs.lemmas.List.{get_or_default}
use Rattle.std.proofs.lemmas.List.FromFn.{length-range_with_len, get_or-range_with_len}
use Rattle.std.proofs.lemmas.List.Sorted.{Contains-permutation, length_permutation}
use Rattle.yspec.specs.Forest.{Forest, size}
use Rattle.yspec.specs.linking.Graph.{Edge, is_on_circle}
use Rattle.yspec.specs.linking.Scopes.{Placed, statements_of, statement_at}
use Rattle.yspec.specs.linking.Source.{Source}
use Rattle.yspec_wide.specs.Language.{Language}
use Rattle.yspec_wide.specs.Features.{is_chosen_feature, all_hold, feature_edges, condition_breaks}
use Rattle.yspec_wide.specs.Sources.{is_feature}
use Rattle.ybase_graph.specs.Reaching.{has_edge, HasEdge, StandsBefore}
use Rattle.ybase_preorder.specs.declared.slot.Slot.{Slot}
use Rattle.ybase_preorder.specs.Layout.{numbered_by, forest_of}
use Rattle.ybase_preorder.proofs.LabelLemmas.{size-by}
use Rattle.ybase_preorder.proofs.NumberLemmas.{stands_there}
use Rattle.ybase_preorder.proofs.RowLemmas.{size_forest}
use Rattle.ylink_grammar.specs.declared.source.Source as held
use Rattle.ylink_grammar.specs.SourceView.{source_view}
use Rattle.ylink_names.proofs.NumberedLemmas.{length_placed}
use Rattle.ylink_names.proofs.PlacedLemmas.{number_of, are_from, stands_at}
use Rattle.ylink_standing.specs.ConditionView.{is_in, all_asked}
use Rattle.ylink_standing.specs.StandingView.{feature_at, told, TellsOn, AreInOrder, AreKnown}
use Rattle.ylink_standing.specs.declared.condition.Condition.{Condition}
use Rattle.ylink_standing.proofs.EdgeLemmas.{straight}
use Rattle.ylink_standing.proofs.OrderLemmas.{AreTold, told_next, told_all}
use Rattle.ylink_standing.proofs.RowLemmas.{row_says}

-- ---- a table in which one thing is set

at_set : (xs : List Bool) (n : ℕ) (x : Bool) → n < length xs → get_or (slice_set xs n x) n false ≡ x
at_set [] n x within = absurd (omega (arith, within))
at_set (y ∷ ys) zero x within = refl
at_set (y ∷ ys) (suc n) x within = at_set ys n x (omega (arith, within))

at_others : (xs : List Bool) (n e : ℕ) (x : Bool) → (n ≡ e → ⊥) → get_or (slice_set xs n x) e false ≡ get_or xs e false
at_others [] n e x other = refl
at_others (y ∷ ys) zero zero x other = absurd (other refl)
at_others (y ∷ ys) zero (suc e) x other = refl
at_others (y ∷ ys) (suc n) zero x other = refl
at_others (y ∷ ys) (suc n) (suc e) x other = at_others ys n e x (λ same. other (ap suc same))

same_length : (xs : List Bool) (n : ℕ) (x : Bool) → length (slice_set xs n x) ≡ length xs
same_length [] n x = refl
same_length (y ∷ ys) zero x = refl
same_length (y ∷ ys) (suc n) x = ap suc (same_length ys n x)

pub set_length : (xs more : List Bool) (n : ℕ) (x : Bool) (count : ℕ) → more ≡ slice_set xs n x → length xs ≡ count → length more ≡ count
set_length xs more n x count set_to long = ap length set_to ∙ (same_length xs n x ∙ long)

within_found : (ps : List Placed) (n : ℕ) (p : Placed) → slice_get ps n ≡ Some p → n < length ps
within_found [] n p e = absurd cc
within_found (q ∷ ps) zero p e = omega arith
within_found (q ∷ ps) (suc n) p e = let later = within_found ps n p e in omega (arith, later)

-- ---- a set, by the rows of its table

module _ (rows : List (Slot held.Source)) where
  abbrev set : Forest Source
  set = numbered_by source_view 0 (forest_of rows)

  pub rows_size : length rows ≡ size set
  rows_size = sym (size-by source_view 0 (forest_of rows) ∙ size_forest rows)

  number_within : (p : Placed) → Contains (statements_of set) p → p.source.number < size set
  number_within p at =
      let found = within_found (statements_of set) p.source.number p (stands_there number_of (statements_of set) (are_from [] 0 (forest_of rows)) p at) in
      let long = length_placed source_view [] 0 (forest_of rows) in
      let sized = size-by source_view 0 (forest_of rows) in
      omega (arith, found, long, sized)

  -- ---- one step

  module _ (asked : List (Option Condition)) (chosen : List Bool) (nodes : List ℕ) where
    -- whatever the language is
    abbrev pub Told : List Bool → ℕ → Type 0
    Told on i = (language : Language) → AreKnown asked chosen nodes language set → AreTold language set nodes (is_in on) i

    pub told_more : (on more : List Bool) (i number : ℕ) (value : Bool) → length on ≡ size set → i < length nodes → number ≡ get_or nodes i 0
        → more ≡ slice_set on number value
        → value ≡ option_map_or (λ (p : Placed). is_in chosen number && all_asked asked (is_in on) p.below) (statement_at set number) false
        → Told on i → Told more (i + 1)
    told_more on more i number value long within number_is set_to value_is so_far language known =
        told_next language set known.none nodes known.order (is_in on) (is_in more) i (so_far language known) within own others
      where
        own : (p : Placed) → Contains (statements_of set) p → is_feature language p.source ≡ true → get_or nodes i 0 ≡ p.source.number
            → is_in more p.source.number ≡ (is_chosen_feature language set (feature_at p) && all_hold language set (told (is_in on)) p.below)
        own p at is_one place =
            let here : number ≡ p.source.number = number_is ∙ place in
            let low = number_within p at in
            ap (λ (l : List Bool). get_or l p.source.number false) set_to
            ∙ (ap (λ n. get_or (slice_set on number value) n false) (sym here)
            ∙ (at_set on number value (omega (arith, low, here, long))
            ∙ (value_is
            ∙ (ap (λ n. option_map_or (λ (q : Placed). is_in chosen n && all_asked asked (is_in on) q.below) (statement_at set n) false) here
            ∙ (ap (λ (o : Option Placed). option_map_or (λ (q : Placed). is_in chosen p.source.number && all_asked asked (is_in on) q.below) o false) (stands_at (forest_of rows) p at)
            ∙ ap₂ (λ a b. a && b)
            (known.chosen_is p at ∙ ap (λ b. b && is_chosen_feature language set (feature_at p)) is_one)
            (row_says asked (is_in on) language set known.asked_is p at))))))

        others : (e : ℕ) → (get_or nodes i 0 ≡ e → ⊥) → is_in more e ≡ is_in on e
        others e other = ap (λ (l : List Bool). get_or l e false) set_to ∙ at_others on number e value (λ same. other (sym number_is ∙ same))

    pub told_at_last : (on : List Bool) (i : ℕ) → length nodes ≤ i → Told on i → (language : Language) → AreKnown asked chosen nodes language set
        → TellsOn language set (is_in on)
    told_at_last on i past so_far language known = told_all language set known.none nodes known.order (is_in on)
        (λ j before inside p at is_one place. so_far language known j (omega (arith, before, past)) inside p at is_one place)

  -- ---- an order

  pub ordered : (language : Language) (count : ℕ) → count ≡ length rows → (nodes : List ℕ) (edges : List Edge) → edges ≡ feature_edges language set
      → condition_breaks language set ≡ [] → IsPermutation (range_with_len 0 count) nodes
      → ((a b : ℕ) → HasEdge edges a b → is_on_circle edges (record { source = a; target = b }) ≡ false → StandsBefore nodes b a)
      → AreInOrder nodes language set
  ordered language count count_is nodes edges are none all behind = record {
    all = standing;
    behind = λ a b edge. behind a b (ap (λ (es : List Edge). has_edge es a b) are ∙ edge)
        (ap (λ (es : List Edge). is_on_circle es (record { source = a; target = b })) are ∙ straight language set none a b edge);
    count = let long = length_permutation (range_with_len 0 count) nodes all in
        let short = length-range_with_len 0 count in
        let whole = rows_size in
        omega (arith, long, short, count_is, whole);
  }
    where
      standing : (p : Placed) → Contains (statements_of set) p → (i : ℕ) × (i < length nodes) × (get_or nodes i 0 ≡ p.source.number)
      standing p at =
          let n = p.source.number in
          let low = number_within p at in
          let whole = rows_size in
          let inside : n < count = omega (arith, low, whole, count_is) in
          let plain : 0 + n ≡ n = omega arith in
          let found = Contains-permutation (range_with_len 0 count) nodes n all
          (n, (let short = length-range_with_len 0 count in omega (arith, inside, short)), get_or-range_with_len 0 count n n inside ∙ plain) in
          let there = found.1 in
          (found.0, there, get_or_default nodes found.0 0 n there ∙ found.2)

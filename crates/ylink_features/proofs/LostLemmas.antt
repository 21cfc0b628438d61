-- The least of some conditions, by what is said of all their edges.
use Rattle.std.proofs.Common.{◌≡◌, ℕ, zero, suc, ◌+◌, ◌<◌, ◌≤◌, Bool, ◌||◌, List, [], ◌∷◌, ◌++◌, length, get_or, take, drop, map, Option, refl, sym, ap, ◌∙◌, arith}
use Rattle.std.specs.List.{list_any, flat_map}
use Rattle.std.proofs.lemmas.List.{at_drop_more, at_drop_all, length-map, map-append}
use Rattle.yspec.specs.Forest.{Forest}
use Rattle.yspec.specs.linking.Graph.{Edge, is_on_circle}
use Rattle.yspec.specs.linking.Scopes.{statements_of}
use Rattle.yspec.specs.linking.Source.{Source}
use Rattle.yspec.specs.schema.Breaks.{Break, least_from}
use Rattle.yspec.proofs.SchemaProofs.LeastLemmas.{least_of_both}
use Rattle.yspec_wide.specs.Features.{feature_edges, condition_breaks}
use Rattle.yspec_wide.specs.Language.{Language}
use Rattle.ybase_graph.specs.Edges.{edge_view}
use Rattle.ybase_graph.specs.declared.circles.Edge as held
use Rattle.ylink_features.specs.AskedView.{Condition, asked_of, asked_view, edges_in, lost_break}
use Rattle.ylink_features.specs.declared.asked.Asked.{Asked}
use Rattle.ylink_features.proofs.AskedLemmas.{edges_of_all, breaks_of_all}

-- ---- lists

taken_of : {A : Type 0} (xs ys : List A) (n : ℕ) → n ≡ length xs → take n (xs ++ ys) ≡ xs
taken_of [] ys zero e = refl
taken_of [] ys (suc n) e = absurd (omega arith)
taken_of (x ∷ xs) ys zero e = absurd (omega arith)
taken_of (x ∷ xs) ys (suc n) e = ap (λ l. x ∷ l) (taken_of xs ys n (omega arith))

left_of : {A : Type 0} (xs ys : List A) (n : ℕ) → n ≡ length xs → drop n (xs ++ ys) ≡ ys
left_of [] ys zero e = refl
left_of [] ys (suc n) e = absurd (omega arith)
left_of (x ∷ xs) ys zero e = absurd (omega arith)
left_of (x ∷ xs) ys (suc n) e = left_of xs ys n (omega arith)

any_flag : {A : Type 0} (test : A → Bool) (xs : List A) → list_any (λ flag. flag) (map test xs) ≡ list_any test xs
any_flag test [] = refl
any_flag test (x ∷ xs) = ap (λ b. test x || b) (any_flag test xs)

-- ---- the edges of all conditions

pub edges_seen : (conditions : List Asked) → edges_in conditions ≡ flat_map (λ (c : Condition). c.edges) (map asked_view conditions)
edges_seen [] = refl
edges_seen (c ∷ conditions) =
    map-append edge_view c.edges.items (flat_map (λ (c : Asked). c.edges.items) conditions)
    ∙ ap (λ l. map edge_view c.edges.items ++ l) (edges_seen conditions)

-- which of some edges lie on circles
pub flags_seen : (test : Edge → Bool) (edges : List held.Edge) → map (λ e. test (edge_view e)) edges ≡ map test (map edge_view edges)
flags_seen test [] = refl
flags_seen test (e ∷ edges) = ap (λ l. test (edge_view e) ∷ l) (flags_seen test edges)

module _ (circular : Edge → Bool) (conditions : List Asked) where
  -- of the flags that are left the first are those of the next condition
  module _ (i : ℕ) (c : Asked) (within : i < length conditions) (is : c ≡ get_or conditions i c) (left : List Bool)
      (are : left ≡ map circular (edges_in (drop i conditions))) where
    abbrev own_flags : List Bool
    own_flags = map circular (map edge_view c.edges.items)

    parted : left ≡ own_flags ++ map circular (edges_in (drop (i + 1) conditions))
    parted =
        let rest = edges_in (drop (i + 1) conditions) in
        are ∙ (at_drop_more (λ cs. map circular (edges_in cs)) conditions i c within
        ∙ (ap (λ (x : Asked). map circular (map edge_view (x.edges.items ++ flat_map (λ (c : Asked). c.edges.items) (drop (i + 1) conditions)))) (sym is)
        ∙ (ap (map circular) (map-append edge_view c.edges.items (flat_map (λ (c : Asked). c.edges.items) (drop (i + 1) conditions)))
        ∙ map-append circular (map edge_view c.edges.items) rest)))

    count : length own_flags ≡ length c.edges.items
    count = length-map (map edge_view c.edges.items) circular ∙ length-map c.edges.items edge_view

    cut_at : (n : ℕ) → n ≡ length c.edges.items → n ≡ length own_flags
    cut_at n e = e ∙ sym count

    pub own_flag : (n : ℕ) (flag : Bool) → n ≡ length c.edges.items → flag ≡ list_any (λ f. f) (take n left)
        → flag ≡ list_any circular (map edge_view c.edges.items)
    own_flag n flag e flag_is =
        flag_is ∙ (ap (list_any (λ f. f)) (ap (take n) parted ∙ taken_of own_flags (map circular (edges_in (drop (i + 1) conditions))) n (cut_at n e))
        ∙ any_flag circular (map edge_view c.edges.items))

    pub other_flags : (n : ℕ) (others : List Bool) → n ≡ length c.edges.items → others ≡ drop n left
        → others ≡ map circular (edges_in (drop (i + 1) conditions))
    other_flags n others e others_is =
        others_is ∙ (ap (drop n) parted ∙ left_of own_flags (map circular (edges_in (drop (i + 1) conditions))) n (cut_at n e))

  pub next_lost : (i : ℕ) (c : Asked) (told result whole : Option Break) → i < length conditions → c ≡ get_or conditions i c
      → result ≡ least_from told (lost_break circular (asked_view c))
      → least_from told (flat_map (lost_break circular) (map asked_view (drop i conditions))) ≡ whole
      → least_from result (flat_map (lost_break circular) (map asked_view (drop (i + 1) conditions))) ≡ whole
  next_lost i c told result whole within is judged so_far =
      let others = flat_map (lost_break circular) (map asked_view (drop (i + 1) conditions)) in
      ap (λ t. least_from t others) judged
      ∙ (sym (least_of_both told (lost_break circular (asked_view c)) others)
      ∙ (ap (λ (x : Asked). least_from told (lost_break circular (asked_view x) ++ others)) is
      ∙ (sym (at_drop_more (λ cs. least_from told (flat_map (lost_break circular) (map asked_view cs))) conditions i c within) ∙ so_far)))

  pub all_lost : (i : ℕ) (told whole : Option Break) → length conditions ≤ i
      → least_from told (flat_map (lost_break circular) (map asked_view (drop i conditions))) ≡ whole → told ≡ whole
  all_lost i told whole ended so_far =
      sym (at_drop_all (λ cs. least_from told (flat_map (lost_break circular) (map asked_view cs))) conditions i ended) ∙ so_far

-- ---- the conditions of a set

module _ (language : Language) (modules : Forest Source) (conditions : List Asked)
    (listed : map asked_view conditions ≡ flat_map (asked_of language modules) (statements_of modules)) where
  pub edges_all : edges_in conditions ≡ feature_edges language modules
  edges_all = edges_seen conditions ∙ (ap (flat_map (λ (c : Condition). c.edges)) listed ∙ edges_of_all language modules)

  pub told_of_all : (so_far told : Option Break)
      → told ≡ least_from so_far (flat_map (lost_break (is_on_circle (feature_edges language modules))) (map asked_view conditions))
      → told ≡ least_from so_far (condition_breaks language modules)
  told_of_all so_far told is = is ∙ (ap (λ cs. least_from so_far (flat_map (lost_break (is_on_circle (feature_edges language modules))) cs)) listed
      ∙ ap (least_from so_far) (breaks_of_all language modules))

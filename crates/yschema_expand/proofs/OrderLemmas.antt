-- No grouping leads to itself: groupings stand in an order, each behind those that it uses, and what is used below a `uses` stands within it.
use Rattle.std.proofs.Common.{◌≡◌, ℕ, zero, suc, ◌+◌, ◌≤◌, ◌<◌, Bool, true, false, List, [], ◌∷◌, length, Option, Some, None, refl, sym, ap, ap₂, ◌∙◌, arith, subst}
use Rattle.std.specs.Prelude.{nat_lt, option_map, option_and_then}
use Rattle.std.specs.List.{Contains}
use Rattle.std.specs.Option.{option_map_or}
use Rattle.std.proofs.lemmas.Bool.{ltb-true, ltb-false}
use Rattle.std.proofs.lemmas.List.Elements.{Contains-append_cases}
use mathlib.Core.Logic.{⊎_elim}
use Rattle.yspec.specs.Forest.{Forest, end, node, size}
use Rattle.yspec.specs.linking.Circles.{referring, innermost, definition_edge, definition_edges}
use Rattle.yspec.specs.linking.DerivedTypes.{number_named}
use Rattle.yspec.specs.linking.Expansion.{Grouping, groupings_of, row_in, row_used, laid}
use Rattle.yspec.specs.linking.Keyword.{grouping_word, uses_word}
use Rattle.yspec.specs.linking.Parts.{Part, part_of}
use Rattle.yspec.specs.linking.Rewriting.{all_uses}
use Rattle.yspec.specs.linking.Scopes.{Placed, placed, statements_of, meaning, kind_named}
use Rattle.yspec.specs.linking.Source.{Source, is_source_of}
use Rattle.yspec.proofs.LinkingProofs.KeywordLemmas.{same_is}
use Rattle.yspec_wide.specs.Expansion.{inner_augments}
use Rattle.yspec_wide.specs.Language.{Language}
use Rattle.ybase_graph.specs.Reaching.{HasEdge}
use Rattle.ybase_preorder.specs.Layout.{numbered_by}
use Rattle.ybase_preorder.proofs.LabelLemmas.{size-by}
use Rattle.ylink_grammar.specs.declared.source.Source as held
use Rattle.ylink_grammar.specs.SourceView.{source_view}
use Rattle.ylink_names.specs.Ordered.{AreInOrder}
use Rattle.ylink_names.specs.ReferringView.{innermost_of}
use Rattle.ylink_names.proofs.NumberedLemmas.{length_placed}
use Rattle.ylink_names.proofs.OrderedLemmas.{place_of}
use Rattle.ylink_names.proofs.PlacedLemmas.{edge_among, stands_at, below_them}
use Rattle.yschema_expand.specs.Knowing.{AreStraight}
use Rattle.yschema_expand.specs.Walk.{all_inner, ends_within_in}
use Rattle.yschema_expand.proofs.DepthLemmas.{both, ends_deeper_to, few, few_most, few_less, first_place, place_is, place_first, weight, weight_less}
use Rattle.yschema_expand.proofs.UsedLemmas.{tested, tested_inner, laid_are, inner_are, grouping_are, around_it, uses_no_grouping}
use Rattle.yschema_expand.proofs.WalkLemmas.{own_augments}

-- ---- what stands below a statement is less than that around it

smaller : (ancestors : List (Source × Forest Source)) (f : Forest Source) (p : Placed) → Contains (placed ancestors f) p → size p.below < size f
unfolding placed
smaller ancestors end p at = absurd (let inside = at.1 in omega (arith, inside))
smaller ancestors (node s below after) p (zero, inside, is) =
    let same : size below ≡ size p.below = ap (λ (q : Placed). size q.below) is in omega (arith, same)
smaller ancestors (node s below after) p (suc k, inside, is) =
    let under = placed ((s, below) ∷ ancestors) below in
    let behind = placed ancestors after in
    ⊎_elim
    (λ at. let less = smaller ((s, below) ∷ ancestors) below p at in omega (arith, less))
    (λ at. let less = smaller ancestors after p at in omega (arith, less))
    (Contains-append_cases under behind p (k, omega (arith, inside), is))

-- ---- where a grouping stands in an order; what stands in none stands behind all

abbrev rank : List ℕ → Option ℕ → ℕ
rank nodes None = length nodes
rank nodes (Some d) = first_place nodes d

module _ (f : Forest held.Source) where
  abbrev set : Forest Source
  set = numbered_by source_view 0 f

  abbrev n : ℕ
  n = size set

  abbrev groupings : List Grouping
  groupings = groupings_of set

  -- a `uses` is a reference of the grouping in which it stands
  uses_edge : (p : Placed) → Contains (statements_of set) p → is_source_of uses_word p.source ≡ true → (d e : ℕ) → innermost_of grouping_word p.ancestors ≡ Some d
      → number_named set p.source.number ≡ Some e → HasEdge (definition_edges set) d e
  uses_edge p at used d e inner named = meant (meaning set p) refl (sym (ap (λ o. option_map (λ (x : Source). x.number) (option_and_then (meaning set) o)) (stands_at f p at)) ∙ named)
    where
      refers : referring p ≡ Some d
      refers = let word : uses_word ≡ p.source.keyword = same_is uses_word p.source.keyword used in
          sym (ap (λ k. option_and_then (λ kind. innermost kind p) (kind_named k)) word) ∙ inner

      meant : (o : Option Source) → meaning set p ≡ o → option_map (λ (x : Source). x.number) o ≡ Some e → HasEdge (definition_edges set) d e
      meant None is own = absurd cc
      meant (Some x) is own =
          let same : x.number ≡ e = cc in
          subst (λ k. HasEdge (definition_edges set) d k) same
          (edge_among (definition_edge set) (statements_of set) p d x.number at
          (ap₂ (λ m r. option_and_then (λ (y : Source). option_map (λ (a : ℕ). record { source = a; target = y.number }) r) m) is refers))

  module _ (nodes : List ℕ) (order : AreInOrder nodes set) where
    -- what a `uses` names stands before the grouping in which it stands
    rank_less : (p : Placed) → Contains (statements_of set) p → is_source_of uses_word p.source ≡ true → (e : ℕ) → number_named set p.source.number ≡ Some e
        → first_place nodes e < rank nodes (innermost_of grouping_word p.ancestors)
    rank_less p at used e named = by (innermost_of grouping_word p.ancestors) refl
      where
        inside : first_place nodes e < length nodes
        inside = let found = place_of nodes set order e (p.source.number, named) in let there = found.1 in
            let first = place_first nodes e found.0 there found.2 in omega (arith, first, there)

        by : (o : Option ℕ) → innermost_of grouping_word p.ancestors ≡ o → first_place nodes e < rank nodes o
        by None inner = inside
        by (Some d) inner = is (nat_lt (first_place nodes d) (length nodes)) refl
          where
            is : (b : Bool) → nat_lt (first_place nodes d) (length nodes) ≡ b → first_place nodes e < first_place nodes d
            is true less =
                let there = ltb-true (first_place nodes d) (length nodes) less in
                order.behind d e (uses_edge p at used d e inner named) (first_place nodes d) (first_place nodes e) there inside (place_is nodes d there) (place_is nodes e inside)
            is false less = let far = ltb-false (first_place nodes d) (length nodes) less in omega (arith, inside, far)

    -- by which the `uses` statements of a set stand in an order
    abbrev key : Placed → ℕ
    key p = weight n (rank nodes (innermost_of grouping_word p.ancestors)) + size p.below

    -- over how many others one may lead
    abbrev need : Placed → ℕ
    need p = few key (key p) (statements_of set)

    need_most : (p : Placed) → need p ≤ n
    need_most p =
        let most = few_most key (key p) (statements_of set) in
        let count = length_placed source_view [] 0 f in
        let all = size-by source_view 0 f in
        omega (arith, most, count, all)

    -- what is used in the grouping that one names, and in its augments, comes before it
    key_named : (p : Placed) → Contains (statements_of set) p → is_source_of uses_word p.source ≡ true → (e : ℕ) → number_named set p.source.number ≡ Some e
        → (q : Placed) → Contains (statements_of set) q → innermost_of grouping_word q.ancestors ≡ Some e → key q < key p
    key_named p at used e named q there inner =
        let first : rank nodes (innermost_of grouping_word q.ancestors) ≡ first_place nodes e = ap (rank nodes) inner in
        let own : key q ≡ weight n (first_place nodes e) + size q.below = ap (λ r. weight n r + size q.below) first in
        let less = weight_less n (first_place nodes e) (rank nodes (innermost_of grouping_word p.ancestors)) (rank_less p at used e named) in
        let small = smaller [] set q there in
        omega (arith, own, less, small)

    key_within : (p q : Placed) → innermost_of grouping_word q.ancestors ≡ innermost_of grouping_word p.ancestors → size q.below < size p.below → key q < key p
    key_within p q inner small =
        let own : key q ≡ weight n (rank nodes (innermost_of grouping_word p.ancestors)) + size q.below =
        ap (λ o. weight n (rank nodes o) + size q.below) inner in
        omega (arith, own, small)

    module _ (language : Language) where
      abbrev ends : ℕ → Part → Bool
      ends depth = ends_within_in language set groupings depth

      -- what a `uses` leads over, where all that comes before it leads over less
      module _ (p : Placed) (at : Contains (statements_of set) p) (used : is_source_of uses_word p.source ≡ true) (depth : ℕ)
          (known : (q : Placed) → Contains (statements_of set) q → is_source_of uses_word q.source ≡ true → key q < key p → ends depth (part_of q.source q.below) ≡ true) where
        abbrev u : Part
        u = part_of p.source p.below

        row_ends : (o : Option ℕ) → number_named set p.source.number ≡ o → all_uses (ends depth) (option_map_or (row_in groupings) o end) ≡ true
        unfolding all_uses
        row_ends None named = refl
        row_ends (Some e) named = tested (ends depth) (row_in groupings e)
            (grouping_are f (λ v. ends depth v ≡ true) e (λ q there is inner. known q there is (key_named p at used e named q there inner)))

        inner_ends : all_inner (ends depth) (inner_augments language p.below) ≡ true
        inner_ends = tested_inner (ends depth) (inner_augments language p.below)
            (inner_are (λ v. ends depth v ≡ true) language ((p.source, p.below) ∷ p.ancestors) p.below (λ q inside is around.
            known q (below_them [] set p q at inside) is
            (key_within p q (around ∙ around_it p.source p.below p.ancestors (uses_no_grouping p.source used)) (smaller ((p.source, p.below) ∷ p.ancestors) p.below q inside))))

        ends_next : ends (suc depth) u ≡ true
        unfolding ends_within_in
        ends_next = both (all_uses (ends depth) (row_used set groupings u)) (all_inner (ends depth) (inner_augments language u.own))
            (row_ends (number_named set p.source.number) refl) (ap (all_inner (ends depth)) (own_augments language p.below) ∙ inner_ends)

      ends_there : (bound : ℕ) (p : Placed) → key p < bound → Contains (statements_of set) p → is_source_of uses_word p.source ≡ true
          → ends (suc (need p)) (part_of p.source p.below) ≡ true
      ends_there zero p low at used = absurd (omega (arith, low))
      ends_there (suc bound) p low at used = ends_next p at used (need p) (λ q there is less.
          let fewer = few_less key (key q) (key p) (statements_of set) q there (omega (arith, less)) (omega arith) less in
          ends_deeper_to language set groupings (suc (need q)) (need p) (part_of q.source q.below) (omega (arith, fewer)) (ends_there bound q (omega (arith, less, low)) there is))

      ends_all : (p : Placed) → Contains (statements_of set) p → is_source_of uses_word p.source ≡ true → ends (suc n) (part_of p.source p.below) ≡ true
      ends_all p at used =
          let most = need_most p in
          ends_deeper_to language set groupings (suc (need p)) (suc n) (part_of p.source p.below) (omega (arith, most)) (ends_there (suc (key p)) p (omega arith) at used)

      pub straight : AreStraight language set
      straight p at = tested (ends (suc n)) (laid p.below)
          (laid_are (λ v. ends (suc n) v ≡ true) ((p.source, p.below) ∷ p.ancestors) p.below (λ q inside is around. ends_all q (below_them [] set p q at inside) is))

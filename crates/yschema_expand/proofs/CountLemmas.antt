-- Counting statements and parts, up to a bound; and how many nodes groupings have, learned in an order in which each stands behind
-- those that it uses.
use Rattle.std.proofs.Common.{◌≡◌, ℕ, zero, suc, ◌+◌, ◌≤◌, ◌<◌, ◌&&◌, ◌||◌, not, Bool, true, false, cond, List, [], ◌∷◌, ◌++◌, length, get_or, min, Option, Some, None, refl, sym, ap, ap₂, ◌∙◌, arith, subst}
use Rattle.std.specs.Prelude.{⊤, ◌==◌, map, find, option_map, option_and_then}
use Rattle.std.specs.List.{Contains}
use Rattle.std.specs.Option.{option_map_or}
use Rattle.std.proofs.lemmas.Bool.Decides.{Decides-eqb}
use Rattle.std.proofs.lemmas.List.Elements.{Contains-append_left, Contains-append_right}
use Rattle.yspec.specs.Forest.{Forest, end, node, size, join}
use Rattle.yspec.specs.linking.Keyword.{Keyword, same_keyword, choice_word, case_word, uses_word, grouping_word, augment_word}
use Rattle.yspec.specs.linking.Source.{Source, is_source_of}
use Rattle.yspec.specs.linking.Parts.{Part, defines_node, part_of, within}
use Rattle.yspec.specs.linking.Expansion.{is_uses, laid, groupings_of, row_in, row_used, is_refine, refine_steps, changed_at, owned_by, replaced}
use Rattle.yspec.specs.linking.Prefixes.{NodeName}
use Rattle.yspec.specs.linking.Augments.{Augment}
use Rattle.yspec.specs.linking.NodeCounts.{counted, GroupingCount, count_in}
use Rattle.yspec.specs.linking.Circles.{referring, innermost, definition_edge, definition_edges}
use Rattle.yspec.specs.linking.DerivedTypes.{number_named}
use Rattle.yspec.specs.linking.Scopes.{Placed, placed, statements_of, statement_at, meaning, kind_named}
use Rattle.yspec.proofs.LinkingProofs.KeywordLemmas.{same_is}
use Rattle.yspec_wide.specs.Language.{Language, core, rfc}
use Rattle.yspec_wide.specs.NodeCounts.{count_of_case, counted_alone, counted_below, GroupingRow, grouping_rows, count_used_in, counted_by_in, counts_within_in, all_counts_in}
use Rattle.yspec_wide.specs.Expansion.{conditioned, overridden_in, is_fit_in, refined_in, inner_augments, put_below, brought_by, is_fit_augment, extended_by, stands_for_in}
use Rattle.yspec_wide.specs.Sources.{is_augment_in}
use Rattle.ybase_graph.specs.Reaching.{HasEdge}
use Rattle.ybase_preorder.specs.Layout.{numbered_by}
use Rattle.ylink_grammar.specs.SourceView.{source_view}
use Rattle.ylink_grammar.specs.declared.source.Source as held
use Rattle.ylink_names.specs.Ordered.{IsNamed, AreInOrder}
use Rattle.ylink_names.specs.ReferringView.{innermost_of}
use Rattle.ylink_names.specs.ScopeView.{placed_at}
use Rattle.ylink_names.proofs.OrderedLemmas.{edge_named, place_of}
use Rattle.ylink_names.proofs.PlacedLemmas.{edge_among, stands_at, among_them, below_them}
use Rattle.yschema_expand.specs.Counting.{many, grouping_row}
use Rattle.yschema_expand.specs.Walk.{is_laid, nodes_for}
use Rattle.yschema_expand.proofs.UsedLemmas.{UsesAre, OnSome}
use Rattle.yschema_expand.proofs.GroupingLemmas.{row_laid, stated_if, stated_at}

module _ (meant : Part → ℕ) where
  pub counted_join : (f g : Forest Part) → counted meant (join f g) ≡ counted meant f + counted meant g
  unfolding counted
  counted_join end g = omega arith
  counted_join (node p below after) g =
      let first = cond (is_uses p) (meant p) (suc (counted meant below)) in
      let rest = counted_join after g in
      ap (λ n. first + n) rest ∙ omega arith

  pub counted_node : (p : Part) (below : Forest Part) → is_uses p ≡ false → counted meant (node p below end) ≡ suc (counted meant below)
  unfolding counted
  counted_node p below other = ap (λ b. cond b (meant p) (suc (counted meant below)) + 0) other ∙ omega arith

  pub counted_uses : (p : Part) → is_uses p ≡ true → counted meant (node p end end) ≡ meant p
  unfolding counted
  counted_uses p is = ap (λ b. cond b (meant p) (suc (counted meant end)) + 0) is ∙ omega arith

-- counts that are the same up to the bound
pub counted_capped : (count other : Part → ℕ) (f : Forest Part) → UsesAre (λ u. min (count u) many ≡ min (other u) many) f
    → min (counted count f) many ≡ min (counted other f) many
unfolding counted
counted_capped count other end are = refl
counted_capped count other (node p below after) are =
    by (is_uses p) refl (λ e. counted_capped count other below (are.1 e)) (counted_capped count other after are.2)
  where
    by : (b : Bool) → is_uses p ≡ b → (is_uses p ≡ false → min (counted count below) many ≡ min (counted other below) many)
        → min (counted count after) many ≡ min (counted other after) many
        → min (cond b (count p) (suc (counted count below)) + counted count after) many ≡ min (cond b (other p) (suc (counted other below)) + counted other after) many
    by true is inner rest = let own = are.0 is in omega (arith, own, rest)
    by false is inner rest = let own = inner is in omega (arith, own, rest)

-- ---- statements

module _ (language : Language) (meant : Source → ℕ) where
  pub row_none : (above : Keyword) → counted_below language meant above end ≡ 0
  unfolding counted_below
  row_none above = refl

  pub row_first : (above : Keyword) (s : Source) (below after : Forest Source) → counted_below language meant above (node s below after)
      ≡ counted_alone language meant above s (counted_below language meant s.keyword below) + counted_below language meant above after
  unfolding counted_below
  row_first above s below after = refl

  -- below a `uses`
  pub alone_inner : (above : Keyword) (s : Source) (inner : ℕ) → same_keyword uses_word above ≡ true
      → counted_alone language meant above s inner ≡ cond (is_augment_in language s) inner 0
  alone_inner above s inner is = ap (λ b. cond b (cond (is_augment_in language s) inner 0)
      (cond (defines_node s.keyword) (count_of_case above s + suc inner) (cond (is_source_of uses_word s) (count_of_case above s + (meant s + inner)) 0))) is

  -- and elsewhere
  alone_other : (above : Keyword) (s : Source) (inner : ℕ) → same_keyword uses_word above ≡ false
      → counted_alone language meant above s inner
      ≡ cond (defines_node s.keyword) (count_of_case above s + suc inner) (cond (is_source_of uses_word s) (count_of_case above s + (meant s + inner)) 0)
  alone_other above s inner other = ap (λ b. cond b (cond (is_augment_in language s) inner 0)
      (cond (defines_node s.keyword) (count_of_case above s + suc inner) (cond (is_source_of uses_word s) (count_of_case above s + (meant s + inner)) 0))) other

  pub alone_none : (above : Keyword) (s : Source) (inner : ℕ) → same_keyword uses_word above ≡ false → is_laid s ≡ false
      → counted_alone language meant above s inner ≡ 0
  alone_none above s inner other none = alone_other above s inner other ∙ by (defines_node s.keyword) (is_source_of uses_word s) none
    where
      by : (d u : Bool) → (d || u) ≡ false → cond d (count_of_case above s + suc inner) (cond u (count_of_case above s + (meant s + inner)) 0) ≡ 0
      by true u e = absurd cc
      by false true e = absurd cc
      by false false e = refl

  -- with a case for a single node of a choice
  pub alone_laid : (above : Keyword) (s : Source) (inner : ℕ) → same_keyword uses_word above ≡ false → is_laid s ≡ true
      → (single : Bool) → (same_keyword choice_word above && not (is_source_of case_word s)) ≡ single
      → counted_alone language meant above s inner ≡ cond single 1 0 + cond (defines_node s.keyword) (suc inner) (meant s + inner)
  alone_laid above s inner other is single single_is = alone_other above s inner other
      ∙ (by (defines_node s.keyword) (is_source_of uses_word s) is
      ∙ ap (λ b. cond b 1 0 + cond (defines_node s.keyword) (suc inner) (meant s + inner)) single_is)
    where
      by : (d u : Bool) → (d || u) ≡ true → cond d (count_of_case above s + suc inner) (cond u (count_of_case above s + (meant s + inner)) 0)
          ≡ count_of_case above s + cond d (suc inner) (meant s + inner)
      by true u e = refl
      by false true e = refl
      by false false e = absurd cc

-- ---- meanings that agree where they are asked

-- what holds of each `uses` of a row, but not of those in further groupings
abbrev pub CountedAre : (Source → Type 0) → Forest Source → Type 0
CountedAre P end = ⊤
CountedAre P (node s below after) =
    (is_source_of uses_word s ≡ true → P s) × (is_source_of grouping_word s ≡ false → CountedAre P below) × CountedAre P after

pub counted_weaker : (P Q : Source → Type 0) → ((s : Source) → P s → Q s) → (f : Forest Source) → CountedAre P f → CountedAre Q f
counted_weaker P Q gives end are = tt
counted_weaker P Q gives (node s below after) are =
    ((λ e. gives s (are.0 e)), (λ e. counted_weaker P Q gives below (are.1 e)), counted_weaker P Q gives after are.2)

pub counted_every : (P : Source → Type 0) → ((s : Source) → P s) → (f : Forest Source) → CountedAre P f
counted_every P all end = tt
counted_every P all (node s below after) = ((λ e. all s), (λ e. counted_every P all below), counted_every P all after)

-- what is counted is no grouping
no_grouping : (j k : Keyword) → same_keyword grouping_word j ≡ false → same_keyword j k ≡ true → same_keyword grouping_word k ≡ false
no_grouping j k other is = let same : j ≡ k = same_is j k is in sym (ap (same_keyword grouping_word) same) ∙ other

node_no_grouping : (k : Keyword) → defines_node k ≡ true → same_keyword grouping_word k ≡ false
node_no_grouping k stands = by (same_keyword grouping_word k) refl
  where
    by : (b : Bool) → same_keyword grouping_word k ≡ b → b ≡ false
    by false e = refl
    by true e = let same : grouping_word ≡ k = same_is grouping_word k e in let clash : false ≡ true = ap defines_node same ∙ stands in absurd cc

augment_no_grouping : (language : Language) (s : Source) → is_augment_in language s ≡ true → same_keyword grouping_word s.keyword ≡ false
augment_no_grouping core s is = absurd cc
augment_no_grouping (rfc wide) s is = no_grouping augment_word s.keyword refl is

-- up to any bound
module _ (language : Language) (bound : ℕ) (count other : Source → ℕ) where
  pub row_alike : (above : Keyword) (f : Forest Source) → CountedAre (λ s. min (count s) bound ≡ min (other s) bound) f
      → min (counted_below language count above f) bound ≡ min (counted_below language other above f) bound
  unfolding counted_below
  row_alike above end are = refl
  row_alike above (node s below after) are =
      by (same_keyword uses_word above) (is_augment_in language s) refl (defines_node s.keyword) refl (is_source_of uses_word s) refl
      (λ out. row_alike s.keyword below (are.1 out)) (row_alike above after are.2)
    where
      inner : ℕ
      inner = counted_below language count s.keyword below

      inside : ℕ
      inside = counted_below language other s.keyword below

      rest : ℕ
      rest = counted_below language count above after

      left : ℕ
      left = counted_below language other above after

      by : (x a : Bool) → is_augment_in language s ≡ a → (d : Bool) → defines_node s.keyword ≡ d → (u : Bool) → is_source_of uses_word s ≡ u
          → (is_source_of grouping_word s ≡ false → min inner bound ≡ min inside bound) → min rest bound ≡ min left bound
          → min (cond x (cond a inner 0) (cond d (count_of_case above s + suc inner) (cond u (count_of_case above s + (count s + inner)) 0)) + rest) bound
          ≡ min (cond x (cond a inside 0) (cond d (count_of_case above s + suc inside) (cond u (count_of_case above s + (other s + inside)) 0)) + left) bound
      by true true added d is u used deeper later = let own = deeper (augment_no_grouping language s added) in omega (arith, own, later)
      by true false added d is u used deeper later = omega (arith, later)
      by false a added true is u used deeper later = let own = deeper (node_no_grouping s.keyword is) in omega (arith, own, later)
      by false a added false is true used deeper later =
          let own = deeper (no_grouping uses_word s.keyword refl used) in let named = are.0 used in omega (arith, own, named, later)
      by false a added false is false used deeper later = omega (arith, later)

-- and without one
pub row_same : (language : Language) (count other : Source → ℕ) (above : Keyword) (f : Forest Source) → CountedAre (λ s. count s ≡ other s) f
    → counted_below language count above f ≡ counted_below language other above f
row_same language count other above f are =
    let bound = counted_below language count above f + counted_below language other above f in
    let whole = row_alike language bound count other above f
    (counted_weaker (λ s. count s ≡ other s) (λ s. min (count s) bound ≡ min (other s) bound) (λ s e. ap (λ n. min n bound) e) f are) in
    omega (arith, whole)

-- ---- bounds

pub capped_next : (so_far one rest count single : ℕ) → single ≡ min one many → count ≡ min (so_far + single) many
    → min (count + rest) many ≡ min (so_far + (one + rest)) many
capped_next so_far one rest count single single_is count_is = omega (arith, single_is, count_is)

pub capped_more : (n inner count : ℕ) → count ≡ min inner many → n ≡ min (1 + count) many → n ≡ min (suc inner) many
capped_more n inner count is more = omega (arith, is, more)

pub capped_single : (whole alone count n : ℕ) → whole ≡ 1 + alone → count ≡ min alone many → n ≡ min (1 + count) many → n ≡ min whole many
capped_single whole alone count n whole_is count_is n_is = omega (arith, whole_is, count_is, n_is)

pub capped_plain : (whole alone n : ℕ) → whole ≡ 0 + alone → n ≡ min alone many → n ≡ min whole many
capped_plain whole alone n whole_is n_is = omega (arith, whole_is, n_is)

pub capped_used : (n inner used counts count : ℕ) → counts ≡ min used many → count ≡ min inner many → n ≡ min (counts + count) many
    → n ≡ min (used + inner) many
capped_used n inner used counts count used_is inner_is n_is = omega (arith, used_is, inner_is, n_is)

pub capped_few : (n count : ℕ) → count ≡ min n many → count ≤ many
capped_few n count is = omega (arith, is)

-- ---- where none are counted

module _ (language : Language) (meant : Source → ℕ) (stands : Part → Forest Part) (owner : ℕ) where
  -- none come of a row, where none come of what it uses
  none_below : ((s : Source) (below : Forest Source) → meant s ≡ 0 → stands (part_of s below) ≡ end)
      → (above : Keyword) → same_keyword uses_word above ≡ false → (f : Forest Source) → counted_below language meant above f ≡ 0
      → replaced stands owner (laid f) ≡ end
  unfolding counted_below replaced laid
  none_below none above other end count = refl
  none_below none above other (node s below after) count =
      by (same_keyword uses_word above) other (defines_node s.keyword) (is_source_of uses_word s) refl count (none_below none above other after)
    where
      p : Part
      p = part_of s below

      inner : ℕ
      inner = counted_below language meant s.keyword below

      rest : ℕ
      rest = counted_below language meant above after

      behind : Forest Part
      behind = replaced stands owner (laid after)

      by : (x : Bool) → x ≡ false → (d u : Bool) → is_source_of uses_word s ≡ u
          → cond x (cond (is_augment_in language s) inner 0) (cond d (count_of_case above s + suc inner) (cond u (count_of_case above s + (meant s + inner)) 0)) + rest ≡ 0
          → (rest ≡ 0 → behind ≡ end)
          → replaced stands owner (cond d (node p (within s (laid below)) (laid after)) (cond u (node p end (laid after)) (laid after))) ≡ end
      by true e d u used count later = absurd cc
      by false e true u used count later = absurd (omega (arith, count))
      by false e false true used count later =
          let own : meant s ≡ 0 = omega (arith, count) in
          let left : rest ≡ 0 = omega (arith, count) in
          ap (λ b. cond b (join (stands p) behind) (node (owned_by owner p) end behind)) used
          ∙ (ap (λ g. join g behind) (none s below own) ∙ later left)
      by false e false false used count later = later (omega (arith, count))

changed_none : (steps : List NodeName) (change : Part → Forest Part → Forest Part → Forest Part) → changed_at steps change end ≡ end
changed_none [] change = refl
changed_none (step ∷ []) change = refl
changed_none (step ∷ next ∷ steps) change = refl

module _ (language : Language) (modules : Forest Source) (owner : ℕ) where
  pub refined_none : (own : Forest Source) → refined_in language modules owner own end ≡ end
  unfolding refined_in
  refined_none end = refl
  refined_none (node s given after) = ap (refined_in language modules owner after) (by (is_refine s && is_fit_in language modules owner s given end)) ∙ refined_none after
    where
      by : (b : Bool) → cond b (changed_at (refine_steps modules owner s) (overridden_in language given) end) end ≡ end
      by true = changed_none (refine_steps modules owner s) (overridden_in language given)
      by false = refl

  extended_none : (meant : Part → Forest Part) (augments : List Augment) → extended_by language meant modules owner augments end ≡ end
  unfolding extended_by
  extended_none meant [] = refl
  extended_none meant (a ∷ others) = ap (extended_by language meant modules owner others) (by (is_fit_augment language modules owner end a)) ∙ extended_none meant others
    where
      by : (b : Bool) → cond b (changed_at (refine_steps modules owner a.source) (put_below (brought_by language meant owner a)) end) end ≡ end
      by true = changed_none (refine_steps modules owner a.source) (put_below (brought_by language meant owner a))
      by false = refl

  -- A `uses` stands for none where its grouping has none: there is nothing to which its augments lead.
  stands_none : (depth : ℕ) (u : Part) → nodes_for language modules owner depth (row_used modules (groupings_of modules) u) ≡ end
      → stands_for_in language modules (groupings_of modules) owner (suc depth) u ≡ end
  unfolding stands_for_in
  stands_none depth u none =
      let meant = stands_for_in language modules (groupings_of modules) owner depth in
      let augments = inner_augments language u.own in
      ap (λ g. conditioned language u.own (extended_by language meant modules owner augments (refined_in language modules owner u.own g))) none
      ∙ (ap (λ g. conditioned language u.own (extended_by language meant modules owner augments g)) (refined_none u.own)
      ∙ ap (conditioned language u.own) (extended_none meant augments))

-- ---- what is counted in a grouping is what it refers to

further : (r : Placed) (ps : List Placed) (q : Placed) → Contains ps q → Contains (r ∷ ps) q
further r ps q at = let inside = at.1 in (suc at.0, omega (arith, inside), at.2)

module _ (good : ℕ → Type 0) (d : ℕ) where
  counted_inside : (ancestors : List (Source × Forest Source)) (row : Forest Source) → innermost_of grouping_word ancestors ≡ Some d
      → ((p : Placed) → Contains (placed ancestors row) p → is_source_of uses_word p.source ≡ true → referring p ≡ Some d → good p.source.number)
      → CountedAre (λ s. good s.number) row
  unfolding placed
  counted_inside ancestors end inner all = tt
  counted_inside ancestors (node s below after) inner all = (
    (λ used.
        let word : uses_word ≡ s.keyword = same_is uses_word s.keyword used in
        all p (0, omega arith, refl) used (sym (ap (λ k. option_and_then (λ kind. innermost kind p) (kind_named k)) word) ∙ inner)),
    (λ out. counted_inside ((s, below) ∷ ancestors) below
        (ap (λ b. option_map (λ (a : Source × Forest Source). a.0.number) (cond b (Some (s, below)) (find (λ (a : Source × Forest Source). is_source_of grouping_word a.0) ancestors))) out ∙ inner)
        (λ q at. all q (further p (under ++ behind) q (Contains-append_left under behind q at)))),
    counted_inside ancestors after inner (λ q at. all q (further p (under ++ behind) q (Contains-append_right under behind q at))),
  )
    where
      p : Placed
      p = placed_at s below ancestors

      under : List Placed
      under = placed ((s, below) ∷ ancestors) below

      behind : List Placed
      behind = placed ancestors after

-- ---- a table by way of one grouping more

module _ (language : Language) (modules : Forest Source) where
  count_found : (counts : List GroupingCount) (number : ℕ) (groupings : List GroupingRow)
      → count_in (map (counted_by_in language modules counts) groupings) number
      ≡ counted_below language (count_used_in language modules counts) grouping_word
      (option_map_or (λ (g : GroupingRow). g.row) (find (λ (g : GroupingRow). g.number == number) groupings) end)
  count_found counts number [] = sym (row_none language (count_used_in language modules counts) grouping_word)
  count_found counts number (g ∷ groupings) = by (g.number == number) (count_found counts number groupings)
    where
      by : (b : Bool) → count_in (map (counted_by_in language modules counts) groupings) number
          ≡ counted_below language (count_used_in language modules counts) grouping_word
          (option_map_or (λ (g : GroupingRow). g.row) (find (λ (g : GroupingRow). g.number == number) groupings) end)
          → option_map_or (λ (c : GroupingCount). c.count) (cond b (Some (counted_by_in language modules counts g))
          (find (λ (c : GroupingCount). c.number == number) (map (counted_by_in language modules counts) groupings))) 0
          ≡ counted_below language (count_used_in language modules counts) grouping_word
          (option_map_or (λ (g : GroupingRow). g.row) (cond b (Some g) (find (λ (g : GroupingRow). g.number == number) groupings)) end)
      by true rest = refl
      by false rest = rest

-- ---- a set of modules, as it is held

module _ (language : Language) (f : Forest held.Source) where
  abbrev set : Forest Source
  set = numbered_by source_view 0 f

  abbrev n : ℕ
  n = size set

  abbrev counts_by : ℕ → List GroupingCount
  counts_by depth = counts_within_in language set (grouping_rows set) depth

  -- how many nodes the grouping of a number has, by way of so many at most
  abbrev has : ℕ → ℕ → ℕ
  has depth e = count_in (counts_by depth) e

  -- and at all
  abbrev pub whole : ℕ → ℕ
  whole e = count_in (all_counts_in language set) e

  abbrev pub by_table : (ℕ → ℕ) → Source → ℕ
  by_table table s = option_map_or table (number_named set s.number) 0

  -- that of a number counted by a table
  abbrev pub row_by_table : (ℕ → ℕ) → ℕ → ℕ
  row_by_table table e = counted_below language (by_table table) grouping_word (grouping_row set e)

  has_is : (depth e : ℕ) → has (suc depth) e ≡ row_by_table (has depth) e
  unfolding counts_within_in
  has_is depth e = count_found language set (counts_by depth) e (grouping_rows set)

  -- what holds of all to which the grouping of a number refers holds of all that is counted in it
  pub all_counted : (good : ℕ → Type 0) (d : ℕ) → ((e : ℕ) → HasEdge (definition_edges set) d e → good e)
      → CountedAre (λ s. OnSome (number_named set s.number) good) (grouping_row set d)
  all_counted good d holds = subst (CountedAre (λ s. named s.number)) (sym (stated_at f d)) (by (statement_at set d) refl)
    where
      named : ℕ → Type 0
      named number = OnSome (number_named set number) good

      refers_well : (p : Placed) → Contains (statements_of set) p → referring p ≡ Some d → named p.source.number
      refers_well p at refers = subst (λ o. OnSome (option_map (λ (x : Source). x.number) (option_and_then (meaning set) o)) good) (sym (stands_at f p at)) (meant (meaning set p) refl)
        where
          meant : (o : Option Source) → meaning set p ≡ o → OnSome (option_map (λ (x : Source). x.number) o) good
          meant None e = tt
          meant (Some x) e = holds x.number (edge_among (definition_edge set) (statements_of set) p d x.number at
              (ap₂ (λ m r. option_and_then (λ (y : Source). option_map (λ (a : ℕ). record { source = a; target = y.number }) r) m) e refers))

      by : (o : Option Placed) → statement_at set d ≡ o → CountedAre (λ s. named s.number) (option_map_or stated_if o end)
      by None e = tt
      by (Some p) e = is (is_source_of grouping_word p.source) refl
        where
          at : Contains (statements_of set) p × (p.source.number ≡ d)
          at = among_them f d p e

          is : (b : Bool) → is_source_of grouping_word p.source ≡ b → CountedAre (λ s. named s.number) (cond b p.below end)
          is false other = tt
          is true grouping = counted_inside named d ((p.source, p.below) ∷ p.ancestors) p.below
              (ap (λ b. option_map (λ (a : Source × Forest Source). a.0.number) (cond b (Some (p.source, p.below)) (find (λ (a : Source × Forest Source). is_source_of grouping_word a.0) p.ancestors))) grouping
              ∙ ap (λ n. Some n) at.1)
              (λ q inside is_it refers. refers_well q (below_them [] set p q at.0 inside) refers)

  -- a row counted by a table of all that are named
  pub row_capped : (table : ℕ → ℕ) → ((e : ℕ) → IsNamed set e → table e ≡ min (whole e) many) → (above : Keyword) (g : Forest Source)
      → min (counted_below language (by_table table) above g) many ≡ min (counted_below language (by_table whole) above g) many
  row_capped table known above g = row_alike language many (by_table table) (by_table whole) above g
      (counted_every (λ s. min (by_table table s) many ≡ min (by_table whole s) many) (λ s. of_one s.number (number_named set s.number) refl) g)
    where
      of_one : (number : ℕ) (o : Option ℕ) → number_named set number ≡ o → min (option_map_or table o 0) many ≡ min (option_map_or whole o 0) many
      of_one number None is = refl
      of_one number (Some e) is = let held = known e (number, is) in omega (arith, held)

  -- ---- and in an order

  -- of the first groupings in an order it is known how many nodes they have
  abbrev pub AreCounted : List ℕ → (ℕ → ℕ) → ℕ → Type 0
  AreCounted nodes table i = (j : ℕ) → j < i → j < length nodes → table (get_or nodes j 0) ≡ min (whole (get_or nodes j 0)) many

  module _ (nodes : List ℕ) (order : AreInOrder nodes set) where
    -- by way of more than stand before it is the same
    same_has : (bound i : ℕ) → i < bound → i < length nodes → (here there : ℕ) → i < here → i < there → has here (get_or nodes i 0) ≡ has there (get_or nodes i 0)
    same_has zero i below inside here there few less = absurd (omega (arith, below))
    same_has (suc bound) i below inside zero there few less = absurd (omega (arith, few))
    same_has (suc bound) i below inside (suc here) zero few less = absurd (omega (arith, less))
    same_has (suc bound) i below inside (suc here) (suc there) few less =
        has_is here d
        ∙ (row_same language (by_table (has here)) (by_table (has there)) grouping_word (grouping_row set d)
        (counted_weaker (λ s. OnSome (number_named set s.number) (λ e. has here e ≡ has there e)) (λ s. by_table (has here) s ≡ by_table (has there) s)
        (λ s is. of_one (number_named set s.number) is) (grouping_row set d) (all_counted (λ e. has here e ≡ has there e) d (λ e edge.
        let at = place_of nodes set order e (edge_named f d e edge) in
        let within_it = at.1 in
        let before = order.behind d e edge i at.0 inside within_it refl at.2 in
        subst (λ k. has here k ≡ has there k) at.2 (same_has bound at.0 (omega (arith, before, below)) within_it here there (omega (arith, before, few)) (omega (arith, before, less))))))
        ∙ sym (has_is there d))
      where
        d : ℕ
        d = get_or nodes i 0

        of_one : (o : Option ℕ) → OnSome o (λ e. has here e ≡ has there e) → option_map_or (has here) o 0 ≡ option_map_or (has there) o 0
        of_one None is = refl
        of_one (Some e) is = is

    counted_own : (table : ℕ → ℕ) (i : ℕ) → AreCounted nodes table i → i < length nodes
        → min (row_by_table table (get_or nodes i 0)) many ≡ min (whole (get_or nodes i 0)) many
    counted_own table i so_far inside =
        row_alike language many (by_table table) (by_table (has n)) grouping_word (grouping_row set d)
        (counted_weaker (λ s. OnSome (number_named set s.number) (λ e. min (table e) many ≡ min (has n e) many)) (λ s. min (by_table table s) many ≡ min (by_table (has n) s) many)
        (λ s is. of_one (number_named set s.number) is) (grouping_row set d) (all_counted (λ e. min (table e) many ≡ min (has n e) many) d (λ e edge.
        let at = place_of nodes set order e (edge_named f d e edge) in
        let within_it = at.1 in
        let before = order.behind d e edge i at.0 inside within_it refl at.2 in
        let few = order.count in
        let same = same_has (suc at.0) at.0 (omega arith) within_it n (suc n) (omega (arith, before, inside, few)) (omega (arith, before, inside, few)) in
        let known = so_far at.0 before within_it in
        subst (λ k. min (table k) many ≡ min (has n k) many) at.2 (omega (arith, known, same)))))
        ∙ ap (λ k. min k many) (sym (has_is n d))
      where
        d : ℕ
        d = get_or nodes i 0

        of_one : (o : Option ℕ) → OnSome o (λ e. min (table e) many ≡ min (has n e) many) → min (option_map_or table o 0) many ≡ min (option_map_or (has n) o 0) many
        of_one None is = refl
        of_one (Some e) is = is

    pub counted_next : (table more : ℕ → ℕ) (i : ℕ) → AreCounted nodes table i → i < length nodes
        → ((e : ℕ) → more e ≡ (cond (e == get_or nodes i 0) (min (row_by_table table (get_or nodes i 0)) many) (table e)))
        → AreCounted nodes more (i + 1)
    counted_next table more i so_far there set_to j below inside = set_to (get_or nodes j 0) ∙ by (get_or nodes j 0 == d) refl
      where
        d : ℕ
        d = get_or nodes i 0

        own : ℕ
        own = min (row_by_table table d) many

        earlier : (get_or nodes j 0 == d) ≡ false → j < i
        earlier other = less (i == j) refl
          where
            clash : i ≡ j → ⊥
            clash same = absurd (let e : false ≡ true = sym other ∙ (Decides-eqb (get_or nodes j 0) d).1 (ap (λ k. get_or nodes k 0) (sym same)) in cc)

            less : (b : Bool) → (i == j) ≡ b → j < i
            less true is = absurd (clash ((Decides-eqb i j).0 is))
            less false is = let differ : (i ≡ j) → ⊥ = clash in omega (arith, below, differ)

        by : (b : Bool) → (get_or nodes j 0 == d) ≡ b → cond b own (table (get_or nodes j 0)) ≡ min (whole (get_or nodes j 0)) many
        by true is = counted_own table i so_far there ∙ ap (λ e. min (whole e) many) (sym ((Decides-eqb (get_or nodes j 0) d).0 is))
        by false is = so_far j (earlier is) inside

    -- and in the end of all that are named
    pub counted_all : (table : ℕ → ℕ) → AreCounted nodes table (length nodes) → (e : ℕ) → IsNamed set e → table e ≡ min (whole e) many
    counted_all table so_far e named =
        let at = place_of nodes set order e named in
        let inside = at.1 in
        subst (λ d. table d ≡ min (whole d) many) at.2 (so_far at.0 inside inside)

    -- that of a number counted by all
    pub whole_is : (e : ℕ) → IsNamed set e → whole e ≡ row_by_table whole e
    whole_is e named =
        let at = place_of nodes set order e named in
        subst (λ d. whole d ≡ row_by_table whole d) at.2 (at_place at.0 at.1)
      where
        at_place : (i : ℕ) → i < length nodes → whole (get_or nodes i 0) ≡ row_by_table whole (get_or nodes i 0)
        at_place i inside = has_is n d
            ∙ row_same language (by_table (has n)) (by_table whole) grouping_word (grouping_row set d)
            (counted_weaker (λ s. OnSome (number_named set s.number) (λ x. has n x ≡ whole x)) (λ s. by_table (has n) s ≡ by_table whole s)
            (λ s is. of_one (number_named set s.number) is) (grouping_row set d) (all_counted (λ x. has n x ≡ whole x) d (λ x edge.
            let at = place_of nodes set order x (edge_named f d x edge) in
            let within_it = at.1 in
            let before = order.behind d x edge i at.0 inside within_it refl at.2 in
            let few = order.count in
            subst (λ k. has n k ≡ whole k) at.2 (same_has (suc at.0) at.0 (omega arith) within_it n (suc n) (omega (arith, before, inside, few)) (omega (arith, before, inside, few))))))
          where
            d : ℕ
            d = get_or nodes i 0

            of_one : (o : Option ℕ) → OnSome o (λ x. has n x ≡ whole x) → option_map_or (has n) o 0 ≡ option_map_or whole o 0
            of_one None is = refl
            of_one (Some x) is = is

    -- none come of one of which none are counted, by way of however many
    pub none_named : (owner depth e : ℕ) → IsNamed set e → whole e ≡ 0 → nodes_for language set owner depth (row_in (groupings_of set) e) ≡ end
    unfolding stands_for_in replaced
    none_named owner zero e named none = ap (nodes_for language set owner zero) (row_laid f e)
        ∙ none_below language (by_table whole) (stands_for_in language set (groupings_of set) owner zero) owner (λ s below is. refl) grouping_word refl (grouping_row set e)
        (sym (whole_is e named) ∙ none)
    none_named owner (suc depth) e named none = ap (nodes_for language set owner (suc depth)) (row_laid f e)
        ∙ none_below language (by_table whole) (stands_for_in language set (groupings_of set) owner (suc depth)) owner
        (λ s below is. stands_none language set owner depth (part_of s below) (used (none_named owner depth) s.number (number_named set s.number) refl is))
        grouping_word refl (grouping_row set e) (sym (whole_is e named) ∙ none)
      where
        used : ((x : ℕ) → IsNamed set x → whole x ≡ 0 → nodes_for language set owner depth (row_in (groupings_of set) x) ≡ end) → (number : ℕ) (o : Option ℕ)
            → number_named set number ≡ o → option_map_or whole o 0 ≡ 0 → nodes_for language set owner depth (option_map_or (row_in (groupings_of set)) o end) ≡ end
        used again number None names is = refl
        used again number (Some x) names is = again x (number, names) is

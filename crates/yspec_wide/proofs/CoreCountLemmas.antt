-- Under the core nodes are counted as without a language.
use Rattle.std.proofs.Common.{◌≡◌, ℕ, zero, suc, ◌+◌, Bool, true, false, cond, not, ◌&&◌, List, [], ◌∷◌, Some, None, refl, sym, ap, ap₂, ◌∙◌, arith}
use Rattle.std.specs.Prelude.{map}
use Rattle.std.specs.List.{filter_map, cons_option}
use Rattle.yspec.specs.Forest.{Forest, end, node, size}
use Rattle.yspec.specs.linking.Keyword.{Keyword, same_keyword, grouping_word, uses_word, choice_word, case_word, module_word, augment_word}
use Rattle.yspec.specs.linking.Source.{Source, is_source_of}
use Rattle.yspec.specs.linking.Scopes.{Placed, statements_of}
use Rattle.yspec.specs.linking.Parts.{Part, defines_node, part_of, case_for, as_cases}
use Rattle.yspec.specs.linking.Expansion.{Grouping, is_uses, laid, grouping_at, groupings_of}
use Rattle.yspec.specs.linking.NodeCounts.{GroupingCount, counted, counted_by, counts_within, counted_from, counted_in, node_count}
use Rattle.yspec.specs.linking.Augments.{Augment, augments_of}
use Rattle.yspec.proofs.LinkingProofs.KeywordLemmas.{of_each}
use Rattle.yspec_wide.specs.Language.{core}
use Rattle.yspec_wide.specs.NodeCounts.{count_of_case, GroupingRow, grouping_row_at, grouping_rows, counted_below, count_used_in, counted_by_in, counts_within_in, counted_in_from, counted_by_augments, node_count_in}

module _ (meant : Source → ℕ) where
  abbrev by_part : Part → ℕ
  by_part u = meant u.source

  -- the core has no augments below a `uses`
  none_used : (above : Keyword) → same_keyword uses_word above ≡ true → (f : Forest Source) → counted_below core meant above f ≡ 0
  unfolding counted_below
  none_used above is end = refl
  none_used above is (node s below after) = by (same_keyword uses_word above) is (none_used above is after)
    where
      by : (b : Bool) → b ≡ true → counted_below core meant above after ≡ 0
          → cond b 0 (cond (defines_node s.keyword) (count_of_case above s + suc (counted_below core meant s.keyword below))
          (cond (is_source_of uses_word s) (count_of_case above s + (meant s + counted_below core meant s.keyword below)) 0)) + counted_below core meant above after ≡ 0
      by true e rest = omega (arith, rest)
      by false e rest = absurd cc

  -- what defines a node uses no grouping
  no_uses : (k : Keyword) → defines_node k ≡ true → same_keyword uses_word k ≡ false
  no_uses k defines = by (same_keyword uses_word k) (defines_node k) defines (of_each (λ k. not (defines_node k && same_keyword uses_word k)) refl k)
    where
      by : (u d : Bool) → d ≡ true → not (d && u) ≡ true → u ≡ false
      by false d is e = refl
      by true true is e = absurd cc
      by true false is e = absurd cc

  -- of a row that is laid out, in a choice or not
  abbrev in_row : Bool → Forest Part → Forest Part
  in_row in_choice f = cond in_choice (as_cases f) f

  abbrev alone : Bool → Part → ℕ → ℕ
  alone u p inner = cond u (meant p.source) (suc inner)

  count_node : (p : Part) (b a : Forest Part) (u : Bool) → is_uses p ≡ u → counted by_part (node p b a) ≡ alone u p (counted by_part b) + counted by_part a
  unfolding counted
  count_node p b a u is = ap (λ x. cond x (meant p.source) (suc (counted by_part b)) + counted by_part a) is

  cases_node : (p : Part) (b a : Forest Part) (c : Bool) → is_source_of case_word p.source ≡ c
      → as_cases (node p b a) ≡ cond c (node p b (as_cases a)) (node (case_for p) (node p b end) (as_cases a))
  cases_node p b a c is = ap (λ x. cond x (node p b (as_cases a)) (node (case_for p) (node p b end) (as_cases a))) is

  count_case : (p : Part) (b a : Forest Part) → counted by_part (node (case_for p) b a) ≡ suc (counted by_part b) + counted by_part a
  unfolding counted
  count_case p b a = refl

  count_end : counted by_part end ≡ 0
  unfolding counted
  count_end = refl

  count_in_row : (in_choice u c : Bool) (p : Part) (b a : Forest Part) → is_uses p ≡ u → is_source_of case_word p.source ≡ c
      → counted by_part (in_row in_choice (node p b a)) ≡ (cond (in_choice && not c) 1 0 + alone u p (counted by_part b)) + counted by_part (in_row in_choice a)
  count_in_row false u c p b a is other = count_node p b a u is ∙ omega arith
  count_in_row true u true p b a is other = ap (counted by_part) (cases_node p b a true other) ∙ (count_node p b (as_cases a) u is ∙ omega arith)
  count_in_row true u false p b a is other =
      let whole = count_case p (node p b end) (as_cases a) in
      let own = count_node p b end u is in
      let none = count_end in
      ap (counted by_part) (cases_node p b a false other) ∙ omega (arith, whole, own, none)

  -- what uses a grouping is no case
  no_case : (k : Keyword) → same_keyword uses_word k ≡ true → same_keyword case_word k ≡ false
  no_case k used = by (same_keyword case_word k) (same_keyword uses_word k) used (of_each (λ k. not (same_keyword uses_word k && same_keyword case_word k)) refl k)
    where
      by : (u d : Bool) → d ≡ true → not (d && u) ≡ true → u ≡ false
      by false d is e = refl
      by true true is e = absurd cc
      by true false is e = absurd cc

  pub row_counted : (above : Keyword) → same_keyword uses_word above ≡ false → (f : Forest Source)
      → counted_below core meant above f ≡ counted by_part (in_row (same_keyword choice_word above) (laid f))
  unfolding counted_below laid
  row_counted above other end = by (same_keyword choice_word above)
    where
      by : (c : Bool) → 0 ≡ counted by_part (in_row c end)
      by true = sym count_end
      by false = sym count_end
  row_counted above other (node s below after) =
      by (same_keyword uses_word above) other (defines_node s.keyword) refl (is_source_of uses_word s) refl (row_counted above other after) (λ none. row_counted s.keyword none below)
    where
      choice : Bool
      choice = same_keyword choice_word above

      p : Part
      p = part_of s below

      count_after : ℕ
      count_after = counted_below core meant above after

      inner : ℕ
      inner = counted_below core meant s.keyword below

      Rest : Type 0
      Rest = count_after ≡ counted by_part (in_row choice (laid after))

      by : (x : Bool) → x ≡ false → (d : Bool) → defines_node s.keyword ≡ d → (u : Bool) → is_source_of uses_word s ≡ u → Rest
          → (same_keyword uses_word s.keyword ≡ false → inner ≡ counted by_part (in_row (is_source_of choice_word s) (laid below)))
          → cond x 0 (cond d (count_of_case above s + suc inner) (cond u (count_of_case above s + (meant s + inner)) 0)) + count_after
          ≡ counted by_part (in_row choice (cond d (node p (in_row (is_source_of choice_word s) (laid below)) (laid after)) (cond u (node p end (laid after)) (laid after))))
      by true e d is u used rest deeper = absurd cc
      by false e true is u used rest deeper =
          let none = no_uses s.keyword is in
          let own = deeper none in
          let whole = count_in_row choice false (is_source_of case_word s) p (in_row (is_source_of choice_word s) (laid below)) (laid after) none refl in
          omega (arith, own, whole, rest)
      by false e false is true used rest deeper =
          let whole = count_in_row choice true (is_source_of case_word s) p end (laid after) used refl in
          let none = none_used s.keyword used below in
          omega (arith, whole, none, rest)
      by false e false is false used rest deeper = omega (arith, rest)

-- ---- all groupings

module _ (modules : Forest Source) where
  table_alike : (counts : List GroupingCount) (ps : List Placed)
      → map (counted_by_in core modules counts) (filter_map grouping_row_at ps) ≡ map (counted_by modules counts) (filter_map grouping_at ps)
  table_alike counts [] = refl
  table_alike counts (p ∷ ps) = by (is_source_of grouping_word p.source) (table_alike counts ps)
    where
      rest : List GroupingRow
      rest = filter_map grouping_row_at ps

      others : List Grouping
      others = filter_map grouping_at ps

      held : GroupingRow
      held = record { number = p.source.number; row = p.below }

      this : Grouping
      this = record { number = p.source.number; row = laid p.below }

      by : (b : Bool) → map (counted_by_in core modules counts) rest ≡ map (counted_by modules counts) others
          → map (counted_by_in core modules counts) (cons_option (cond b (Some held) None) rest) ≡ map (counted_by modules counts) (cons_option (cond b (Some this) None) others)
      by true e = ap₂ (λ n (more : List GroupingCount). (record { number = p.source.number; count = n }) ∷ more)
          (row_counted (count_used_in core modules counts) grouping_word refl p.below) e
      by false e = e

  within_alike : (depth : ℕ) → counts_within_in core modules (grouping_rows modules) depth ≡ counts_within modules (groupings_of modules) depth
  unfolding counts_within_in counts_within
  within_alike zero = refl
  within_alike (suc depth) = table_alike (counts_within_in core modules (grouping_rows modules) depth) (statements_of modules)
      ∙ ap (λ counts. map (counted_by modules counts) (groupings_of modules)) (within_alike depth)

  from_alike : (counts : List GroupingCount) (f : Forest Source) → counted_in_from core modules counts f ≡ counted_from modules counts f
  from_alike counts end = refl
  from_alike counts (node s below after) =
      ap₂ (λ m n. m + n) (row_counted (count_used_in core modules counts) module_word refl below) (from_alike counts after)

  augments_alike : (counts : List GroupingCount) (xs : List Augment) → counted_by_augments core modules counts xs ≡ counted_in modules counts xs
  augments_alike counts [] = refl
  augments_alike counts (a ∷ xs) =
      ap₂ (λ m n. m + n) (row_counted (count_used_in core modules counts) augment_word refl a.given) (augments_alike counts xs)

  pub count_alike : node_count_in core modules ≡ node_count modules
  count_alike = ap₂ (λ m n. m + n) (from_alike (counts_within_in core modules (grouping_rows modules) (suc (size modules))) modules)
      (augments_alike (counts_within_in core modules (grouping_rows modules) (suc (size modules))) (augments_of modules))
      ∙ ap (λ counts. counted_from modules counts modules + counted_in modules counts (augments_of modules)) (within_alike (suc (size modules)))

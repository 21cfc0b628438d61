-- Conditions of a row, which are kept with a keyword of their own, and what a refine may give besides.
use Rattle.std.proofs.Common.{◌≡◌, ℕ, suc, ◌+◌, Bool, true, false, cond, not, ◌&&◌, ◌||◌, List, [], ◌∷◌, ◌++◌, map, length, take, drop, count_by, refl, sym, ap, ap₂, ◌∙◌, arith, subst, zero, length-take, length-drop}
use Rattle.std.specs.Prelude.{◌==◌, ◌≤◌}
use Rattle.std.specs.List.{list_any, list_all}
use Rattle.std.proofs.lemmas.Bool.{and_parts, eqb-true}
use Rattle.std.proofs.lemmas.List.{take-append-drop}
use Rattle.std.proofs.lemmas.List.Sums.{sum_by-cons}
use Rattle.yspec.specs.Forest.{Forest, end, node, row, size, join}
use Rattle.yspec.specs.schema.Breaks.{Count, exactly_one, at_most_one, any_number, is_wrong_count}
use Rattle.yspec.specs.linking.Keyword.{Keyword, same_keyword, extension_word}
use Rattle.yspec.specs.linking.Keyword as word
use Rattle.yspec.specs.linking.Parts.{Part, defines_node, own_of}
use Rattle.yspec.specs.linking.Source.{Source, is_source_of}
use Rattle.yspec.specs.linking.Table.{Allowed, rule_of}
use Rattle.yspec.specs.linking.Expansion.{is_borne}
use Rattle.yspec.proofs.ForestLemmas.{join_end}
use Rattle.yspec.proofs.LinkingProofs.KeywordLemmas.{same_is}
use Rattle.yspec_wide.specs.Language.{Language, core, rfc}
use Rattle.yspec_wide.specs.Sources.{is_guard, bears_guard, guard_row, without_guards}
use Rattle.yspec_wide.specs.Expansion.{conditioned, is_borne_in}
use Rattle.ybase_preorder.specs.Layout.{forest_of, forest_within, numbered_by}
use Rattle.ybase_preorder.specs.declared.slot.Slot.{Slot}
use Rattle.ybase_preorder.proofs.RowLemmas.{forest_of-cons, no_node as no_slot}
use Rattle.ybase_words.specs.KeywordView.{keyword_view}
use Rattle.ylink_grammar.specs.SourceView.{source_view}
use Rattle.ylink_grammar.specs.declared.source.Source as held
use Rattle.yschema_given.specs.Keeping.{are_kept_right, are_leaves, is_kept, is_kept_right, leaf_keywords, other_keywords}

-- ---- statements that define nodes aren't kept so

pub none_kept : (s : Source) → defines_node s.keyword ≡ true → is_kept s ≡ false
none_kept s stands = by (same_keyword extension_word s.keyword) refl
  where
    by : (b : Bool) → same_keyword extension_word s.keyword ≡ b → b ≡ false
    by false e = refl
    by true e = let same : extension_word ≡ s.keyword = same_is extension_word s.keyword e in let clash : false ≡ true = ap defines_node same ∙ stands in absurd cc

module _ (language : Language) where
  -- ---- where conditions are kept so

  pub as_kept : (s : Source) → is_kept_right language s ≡ true → is_guard language s ≡ true → is_kept s ≡ true
  as_kept s right is = sym (ap (λ b. not b || is_kept s) is) ∙ right

  pub kept_parts : (s : Source) (below after : Forest Source) → are_kept_right language (node s below after) ≡ true
      → (is_kept_right language s ≡ true) × (are_kept_right language below ≡ true) × (are_kept_right language after ≡ true)
  kept_parts s below after kept =
      let first = and_parts (is_kept_right language s) (are_kept_right language below && are_kept_right language after) kept in
      let rest = and_parts (are_kept_right language below) (are_kept_right language after) first.1 in
      (first.0, rest.0, rest.1)

  no_node : (s : Source) → is_kept_right language s ≡ true → defines_node s.keyword ≡ true → is_guard language s ≡ false
  no_node s right stands = by (is_guard language s) refl
    where
      by : (b : Bool) → is_guard language s ≡ b → b ≡ false
      by false e = refl
      by true e = absurd (let clash : false ≡ true = sym (none_kept s stands) ∙ as_kept s right e in cc)

  -- none of what defines nodes is one
  pub own_conditions : (f : Forest Source) → are_kept_right language f ≡ true → guard_row language (own_of f) ≡ guard_row language f
  own_conditions end kept = refl
  own_conditions (node s below after) kept =
      let parts = kept_parts s below after kept in
      by (defines_node s.keyword) refl parts.0 (own_conditions after parts.2)
    where
      by : (d : Bool) → defines_node s.keyword ≡ d → is_kept_right language s ≡ true → guard_row language (own_of after) ≡ guard_row language after
          → guard_row language (cond d (own_of after) (node s below (own_of after)))
          ≡ cond (is_guard language s) (node s below (guard_row language after)) (guard_row language after)
      by true d right rest = rest ∙ sym (ap (λ b. cond b (node s below (guard_row language after)) (guard_row language after)) (no_node s right d))
      by false d right rest = ap (λ r. cond (is_guard language s) (node s below r) r) rest

  -- rows of the same conditions are asked alike
  pub asked_alike : (given more : Forest Source) → guard_row language given ≡ guard_row language more → (f : Forest Part)
      → conditioned language given f ≡ conditioned language more f
  asked_alike given more is end = refl
  asked_alike given more is (node p below after) = ap₂ (λ own rest. node (record p { own = own }) below rest)
      (ap (join p.own) is) (asked_alike given more is after)

  -- ---- where there are none

  neither : (a b : Bool) → (a || b) ≡ false → (a ≡ false) × (b ≡ false)
  neither true b e = absurd cc
  neither false b e = (refl, e)

  pub none_own : (f : Forest Source) → bears_guard language f ≡ false → guard_row language (own_of f) ≡ end
  none_own end none = refl
  none_own (node s below after) none =
      let both = neither (is_guard language s) (bears_guard language after) none in
      by (defines_node s.keyword) both.0 (none_own after both.1)
    where
      by : (d : Bool) → is_guard language s ≡ false → guard_row language (own_of after) ≡ end
          → guard_row language (cond d (own_of after) (node s below (own_of after))) ≡ end
      by true own rest = rest
      by false own rest = ap (λ b. cond b (node s below (guard_row language (own_of after))) (guard_row language (own_of after))) own ∙ rest

  pub none_conditioned : (given : Forest Source) → guard_row language given ≡ end → (f : Forest Part) → conditioned language given f ≡ f
  none_conditioned given none end = refl
  none_conditioned given none (node p below after) = ap₂ (λ own rest. node (record p { own = own }) below rest)
      (ap (join p.own) none ∙ join_end p.own) (none_conditioned given none after)

-- ---- what the table has below a keyword, by the keywords of a row

abbrev borne_by : Keyword → List Keyword → Keyword → Bool
borne_by k ks j = list_any (λ (a : Allowed). same_keyword a.keyword j
    && not (is_wrong_count a.count (count_by (same_keyword j) ks))) (rule_of k).substatements

abbrev keywords : List Source → List Keyword
keywords ss = map (λ s. s.keyword) ss

count_keywords : (j : Keyword) (ss : List Source) → count_by (is_source_of j) ss ≡ count_by (same_keyword j) (keywords ss)
count_keywords j [] = refl
count_keywords j (s ∷ ss) = sum_by-cons (λ (x : Source). cond {A = ℕ} (is_source_of j x) 1 0) s ss
    ∙ (ap (λ n. cond (same_keyword j s.keyword) 1 0 + n) (count_keywords j ss)
    ∙ sym (sum_by-cons (λ (x : Keyword). cond {A = ℕ} (same_keyword j x) 1 0) s.keyword (keywords ss)))

borne_is : (k : Keyword) (f : Forest Source) (ks : List Keyword) (s : Source) → count_by (is_source_of s.keyword) (row f) ≡ count_by (same_keyword s.keyword) ks
    → is_borne k f s ≡ borne_by k ks s.keyword
borne_is k f ks s same = ap (λ n. list_any (λ (a : Allowed). same_keyword a.keyword s.keyword && not (is_wrong_count a.count n)) (rule_of k).substatements) same

all_borne : (k : Keyword) (f : Forest Source) (ss : List Source) → list_all (is_borne k f) ss ≡ list_all (borne_by k (keywords (row f))) (keywords ss)
all_borne k f [] = refl
all_borne k f (s ∷ ss) = ap₂ (λ a b. a && b) (borne_is k f (keywords (row f)) s (count_keywords s.keyword (row f))) (all_borne k f ss)

-- rows of the same keywords are borne alike
pub borne_alike : (k : Keyword) (f : Forest Source) → list_all (is_borne k f) (row f) ≡ list_all (borne_by k (keywords (row f))) (keywords (row f))
borne_alike k f = all_borne k f (row f)

-- of `extension` there may be any number, where there may be any
abbrev is_any : Count → Bool
is_any any_number = true
is_any other = false

abbrev any_or_other : Allowed → Bool
any_or_other a = not (same_keyword a.keyword extension_word) || is_any a.count

any_extension : (k : Keyword) → list_all any_or_other (rule_of k).substatements ≡ true
any_extension word.module_word = refl
any_extension word.yang_version_word = refl
any_extension word.namespace_word = refl
any_extension word.prefix_word = refl
any_extension word.import_word = refl
any_extension word.revision_date_word = refl
any_extension word.organization_word = refl
any_extension word.contact_word = refl
any_extension word.description_word = refl
any_extension word.reference_word = refl
any_extension word.revision_word = refl
any_extension word.extension_word = refl
any_extension word.typedef_word = refl
any_extension word.grouping_word = refl
any_extension word.augment_word = refl
any_extension word.container_word = refl
any_extension word.leaf_word = refl
any_extension word.leaf_list_word = refl
any_extension word.list_word = refl
any_extension word.choice_word = refl
any_extension word.case_word = refl
any_extension word.uses_word = refl
any_extension word.refine_word = refl
any_extension word.type_word = refl
any_extension word.fraction_digits_word = refl
any_extension word.range_word = refl
any_extension word.length_word = refl
any_extension word.enum_word = refl
any_extension word.bit_word = refl
any_extension word.path_word = refl
any_extension word.require_instance_word = refl
any_extension word.error_message_word = refl
any_extension word.error_app_tag_word = refl
any_extension word.value_word = refl
any_extension word.position_word = refl
any_extension word.units_word = refl
any_extension word.default_word = refl
any_extension word.config_word = refl
any_extension word.mandatory_word = refl
any_extension word.presence_word = refl
any_extension word.min_elements_word = refl
any_extension word.max_elements_word = refl
any_extension word.ordered_by_word = refl
any_extension word.status_word = refl
any_extension word.key_word = refl
any_extension word.unique_word = refl
any_extension word.identity_word = refl
any_extension word.base_word = refl

abbrev allowed_with : ℕ → Keyword → Allowed → Bool
allowed_with n j a = same_keyword a.keyword j && not (is_wrong_count a.count n)

any_count : (n m : ℕ) (those : List Allowed) → list_all any_or_other those ≡ true
    → list_any (allowed_with n extension_word) those ≡ list_any (allowed_with m extension_word) those
any_count n m [] all = refl
any_count n m (a ∷ those) all =
    let parts = and_parts (any_or_other a) (list_all any_or_other those) all in
    ap₂ (λ x y. x || y) (by (same_keyword a.keyword extension_word) a.count parts.0) (any_count n m those parts.1)
  where
    by : (b : Bool) (c : Count) → (not b || is_any c) ≡ true → (b && not (is_wrong_count c n)) ≡ (b && not (is_wrong_count c m))
    by false c e = refl
    by true any_number e = refl
    by true exactly_one e = absurd cc
    by true at_most_one e = absurd cc

module _ (language : Language) where
  -- conditions count for nothing
  count_others : (j : Keyword) → same_keyword extension_word j ≡ false → (f : Forest Source) → are_kept_right language f ≡ true
      → count_by (is_source_of j) (row f) ≡ count_by (same_keyword j) (other_keywords language f)
  count_others j other end kept = refl
  count_others j other (node s below after) kept =
      let parts = kept_parts language s below after kept in
      sum_by-cons (λ (x : Source). cond {A = ℕ} (is_source_of j x) 1 0) s (row after)
      ∙ by (is_guard language s) refl parts.0 (count_others j other after parts.2)
    where
      not_it : is_kept s ≡ true → same_keyword j s.keyword ≡ false
      not_it kept = of_it (same_keyword j s.keyword) refl
        where
          of_it : (b : Bool) → same_keyword j s.keyword ≡ b → b ≡ false
          of_it false e = refl
          of_it true e = let same : j ≡ s.keyword = same_is j s.keyword e in
              let clash : true ≡ false = sym kept ∙ (ap (same_keyword extension_word) (sym same) ∙ other) in absurd cc

      by : (b : Bool) → is_guard language s ≡ b → is_kept_right language s ≡ true
          → count_by (is_source_of j) (row after) ≡ count_by (same_keyword j) (other_keywords language after)
          → cond (same_keyword j s.keyword) 1 0 + count_by (is_source_of j) (row after)
          ≡ count_by (same_keyword j) (keywords (row (cond b (without_guards language after) (node s below (without_guards language after)))))
      by true is right rest =
          let those = count_by (is_source_of j) (row after) in
          let plain : 0 + those ≡ those = omega arith in
          ap (λ x. cond {A = ℕ} x 1 0 + those) (not_it (as_kept language s right is)) ∙ (plain ∙ rest)
      by false is right rest = ap (λ n. cond {A = ℕ} (same_keyword j s.keyword) 1 0 + n) rest
          ∙ sym (sum_by-cons (λ (x : Keyword). cond {A = ℕ} (same_keyword j x) 1 0) s.keyword (other_keywords language after))

  borne_other : (k : Keyword) (f : Forest Source) → are_kept_right language f ≡ true → (s : Source)
      → is_borne k f s ≡ borne_by k (other_keywords language f) s.keyword
  borne_other k f kept s = by (same_keyword extension_word s.keyword) refl
    where
      all : List Allowed
      all = (rule_of k).substatements

      here : ℕ
      here = count_by (is_source_of s.keyword) (row f)

      there : ℕ
      there = count_by (same_keyword s.keyword) (other_keywords language f)

      by : (b : Bool) → same_keyword extension_word s.keyword ≡ b → is_borne k f s ≡ borne_by k (other_keywords language f) s.keyword
      by false other = borne_is k f (other_keywords language f) s (count_others s.keyword other f kept)
      by true same = subst (λ j. list_any (allowed_with here j) all ≡ list_any (allowed_with there j) all) (same_is extension_word s.keyword same)
          (any_count here there all (any_extension k))

  conditions_borne : (k : Keyword) (f g : Forest Source) → are_kept_right language f ≡ true
      → list_all (is_borne_in language k f) (row g) ≡ list_all (borne_by k (other_keywords language f)) (other_keywords language g)
  conditions_borne k f end kept = refl
  conditions_borne k f (node s below after) kept =
      ap (λ b. (is_guard language s || is_borne k f s) && b) (conditions_borne k f after kept) ∙ by (is_guard language s)
    where
      rest : Bool
      rest = list_all (borne_by k (other_keywords language f)) (other_keywords language after)

      by : (b : Bool) → ((b || is_borne k f s) && rest)
          ≡ list_all (borne_by k (other_keywords language f)) (keywords (row (cond b (without_guards language after) (node s below (without_guards language after)))))
      by true = refl
      by false = ap (λ x. x && rest) (borne_other k f kept s)

pub none_borne : (language : Language) (k : Keyword) (f g : Forest Source) → bears_guard language g ≡ false
    → list_all (is_borne k f) (row g) ≡ list_all (is_borne_in language k f) (row g)
none_borne language k f end none = refl
none_borne language k f (node s below after) none =
    let both = neither language (is_guard language s) (bears_guard language after) none in
    ap₂ (λ a b. (a || is_borne k f s) && b) (sym both.0) (none_borne language k f after both.1)

-- ---- statements with nothing below them

leaf_row : (n : ℕ) (slots : List (Slot held.Source)) → are_leaves slots ≡ true
    → keywords (row (numbered_by source_view n (forest_within (length slots) slots))) ≡ leaf_keywords slots
unfolding forest_within
leaf_row n [] leaves = refl
leaf_row n (r ∷ slots) leaves =
    let parts = and_parts (r.below == 0) (are_leaves slots) leaves in
    let none : r.below ≡ 0 = eqb-true r.below 0 parts.0 in
    ap (λ m. keyword_view r.label.keyword ∷ keywords (row (numbered_by source_view (n + suc (size (forest_within (length slots) (take m slots))))
    (forest_within (length slots) (drop m slots))))) none
    ∙ ap (λ ks. keyword_view r.label.keyword ∷ ks) (leaf_row (n + suc (size (forest_within (length slots) []))) slots parts.1)

pub leaf_borne : (language : Language) (k : Keyword) (f : Forest Source) (slots : List (Slot held.Source)) (g : Forest Source) → are_kept_right language f ≡ true
    → are_leaves slots ≡ true → leaf_keywords slots ≡ other_keywords language f → g ≡ numbered_by source_view 0 (forest_of slots)
    → list_all (is_borne k g) (row g) ≡ list_all (is_borne_in language k f) (row f)
leaf_borne language k f slots g kept leaves same is =
    let whole : keywords (row g) ≡ other_keywords language f = ap (λ h. keywords (row h)) is ∙ (leaf_row 0 slots leaves ∙ same) in
    borne_alike k g ∙ (ap (λ ks. list_all (borne_by k ks) ks) whole ∙ sym (conditions_borne language k f f kept))

-- ---- statements that lie in a table

-- the core has none
pub core_keeps : (f : Forest Source) → are_kept_right core f ≡ true
core_keeps end = refl
core_keeps (node s below after) = ap₂ (λ x y. x && y) (core_keeps below) (core_keeps after)

-- its number says nothing of it
right_alike : (language : Language) (k : ℕ) (s : held.Source) → is_kept_right language (source_view k s) ≡ is_kept_right language (source_view 0 s)
right_alike core k s = refl
right_alike (rfc wide) k s = refl

abbrev slots_kept : Language → List (Slot held.Source) → Bool
slots_kept language slots = list_all (λ (r : Slot held.Source). is_kept_right language (source_view 0 r.label)) slots

pub all_both : {A : Type 0} (test : A → Bool) (xs ys : List A) → list_all test (xs ++ ys) ≡ (list_all test xs && list_all test ys)
all_both test [] ys = refl
all_both test (x ∷ xs) ys = ap (λ b. test x && b) (all_both test xs ys) ∙ by (test x)
  where
    by : (b : Bool) → (b && (list_all test xs && list_all test ys)) ≡ ((b && list_all test xs) && list_all test ys)
    by true = refl
    by false = refl

pub all_taken : {A : Type 0} (test : A → Bool) (n : ℕ) (xs : List A) → list_all test xs ≡ true → (list_all test (take n xs) ≡ true) × (list_all test (drop n xs) ≡ true)
all_taken test n xs all = and_parts (list_all test (take n xs)) (list_all test (drop n xs))
    (sym (all_both test (take n xs) (drop n xs)) ∙ (ap (list_all test) (take-append-drop n xs) ∙ all))

module _ (language : Language) where
  kept_within : (n k : ℕ) (slots : List (Slot held.Source)) → length slots ≤ n
      → are_kept_right language (numbered_by source_view k (forest_of slots)) ≡ slots_kept language slots
  kept_within n k [] h = ap (λ f. are_kept_right language (numbered_by source_view k f)) (no_slot [] refl)
  kept_within zero k (r ∷ slots) h = absurd (omega arith)
  kept_within (suc n) k (r ∷ slots) h =
      let under = take r.below slots in
      let behind = drop r.below slots in
      ap (λ f. are_kept_right language (numbered_by source_view k f)) (forest_of-cons r slots)
      ∙ ap₂ (λ a b. a && b) (right_alike language k r.label)
      (ap₂ (λ x y. x && y) (kept_within n (k + 1) under (omega (arith, length-take r.below slots)))
      (kept_within n (k + suc (size (forest_of under))) behind (omega (arith, length-drop r.below slots)))
      ∙ (sym (all_both (λ (x : Slot held.Source). is_kept_right language (source_view 0 x.label)) under behind)
      ∙ ap (slots_kept language) (take-append-drop r.below slots)))

  -- and so has what lies in a part of it
  pub kept_below : (slots : List (Slot held.Source)) (n m k : ℕ) → are_kept_right language (numbered_by source_view 0 (forest_of slots)) ≡ true
      → are_kept_right language (numbered_by source_view k (forest_of (take n (drop m slots)))) ≡ true
  kept_below slots n m k all =
      let test : Slot held.Source → Bool = λ (x : Slot held.Source). is_kept_right language (source_view 0 x.label) in
      let whole = sym (kept_within (length slots) 0 slots (omega arith)) ∙ all in
      kept_within (length (take n (drop m slots))) k (take n (drop m slots)) (omega arith)
      ∙ (all_taken test n (drop m slots) (all_taken test m slots whole).1).0

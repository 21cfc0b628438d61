-- In the schema of linked modules a case stands right below a choice.
use Rattle.std.proofs.Common.{◌≡◌, ℕ, zero, suc, ◌+◌, Bool, true, false, not, cond, ◌||◌, List, [], ◌∷◌, ◌++◌, length, Option, Some, None, Ok, refl, sym, ap, ◌∙◌, subst}
use Rattle.std.specs.Prelude.{find, is_some, option_map, option_and_then, ◌==◌}
use Rattle.std.specs.List.{filter_map, cons_option}
use Rattle.std.specs.Option.{option_map_or}
use Rattle.std.specs.Coded.{Coded-set, coded_bool, →_prop, Unit-prop}
use Rattle.std.proofs.lemmas.Bool.{and_parts}
use mathlib.Core.HLevel.{×₃_prop}
use Rattle.yspec.specs.Forest.{Forest, end, node, join, row, size, relabelled, change_nth, below_nth}
use Rattle.yspec.specs.text.Statement.{Statement}
use Rattle.yspec.specs.schema.Schema.{Schema, SchemaNode, Kind, container, leaf, leaf_list, list, choice, case}
use Rattle.yspec.specs.schema.Configuration.{unasked, asked_node}
use Rattle.yspec.specs.linking.Keyword.{Keyword, same_keyword, choice_word, case_word, module_word, uses_word, grouping_word, augment_word}
use Rattle.yspec.specs.linking.Table.{Allowed, rule_of}
use Rattle.yspec.specs.linking.StatementBreaks.{is_allowed}
use Rattle.yspec.specs.linking.Source.{Source, is_source_of, first_with, sources_of}
use Rattle.yspec.specs.linking.Scopes.{Placed, placed, statements_of}
use Rattle.yspec.specs.linking.DerivedTypes.{number_named}
use Rattle.yspec.specs.linking.Prefixes.{NodeName}
use Rattle.yspec.specs.linking.Parts.{Part, defines_node, part_of, case_for, as_cases, within}
use Rattle.yspec.specs.linking.Planned.{Planned, Plan, Around, planned_node, around_below, planned}
use Rattle.yspec.specs.linking.SchemaNodes.{kind_by, schema_node}
use Rattle.yspec.specs.linking.Compiling.{compiled}
use Rattle.yspec.specs.linking.Expansion.{Grouping, laid, is_uses, grouping_at, groupings_of, row_in, row_used, refined, owned_by, replaced, stands_for, expanded_from, expanded_parts, is_step, part_at, changed_at}
use Rattle.yspec.specs.linking.Augments.{Augment, augments_in, augments_of, target_steps, added_nodes, may_be_augmented, kept_out, may_take, is_ready, marked, added_below, applied, first_that, done_first, in_turn, augmented}
use Rattle.yspec.proofs.LinkingProofs.KeywordLemmas.{of_each, same_is, by_definition}
use Rattle.yspec.proofs.LinkingProofs.LegalLemmas.{IsLegal, AreModules, AreAt, are_modules, are_at}
use Rattle.yspec.proofs.LinkingProofs.ExpansionLemmas.{Nodes, SameNodes, same_itself, same_refined}
use Rattle.yspec.proofs.LinkingProofs.RightPartLemmas.{AreRight}
use Rattle.yspec.proofs.LinkingProofs.LinkedLemmas.{compiles, plan_in, parts_in, right_plan}
use Rattle.yspec_fit.specs.Fit.{CasesInChoices, is_choice, is_case}
use Rattle.yspec_fit.proofs.ConfigurationLemmas.{kept_by}

false_true : {A : Type 0} (b : Bool) → b ≡ false → b ≡ true → A
false_true b other same = absurd (let f : false ≡ true = sym other ∙ same in cc)

-- ---- parts

-- a case stands right below a choice; whether the row does is given
abbrev pub CasesPlaced : Bool → Nodes → Type 0
CasesPlaced in_choice end = Unit {0}
CasesPlaced in_choice (node p below after) = (is_source_of case_word p.source ≡ true → in_choice ≡ true)
    × CasesPlaced (is_source_of choice_word p.source) below × CasesPlaced in_choice after

placed_anywhere : (b : Bool) (f : Nodes) → CasesPlaced false f → CasesPlaced b f
placed_anywhere b end placed = tt
placed_anywhere b (node p below after) placed =
    (λ is. absurd (let f : false ≡ true = placed.0 is in cc), placed.1, placed_anywhere b after placed.2)

placed_joined : (b : Bool) (f g : Nodes) → CasesPlaced b f → CasesPlaced b g → CasesPlaced b (join f g)
placed_joined b end g first second = second
placed_joined b (node p below after) g first second = (first.0, first.1, placed_joined b after g first.2 second)

placed_cases : (f : Nodes) → CasesPlaced true f → CasesPlaced true (as_cases f)
placed_cases end placed = tt
placed_cases (node p below after) placed = by (is_source_of case_word p.source) refl (placed_cases after placed.2)
  where
    by : (b : Bool) → is_source_of case_word p.source ≡ b → CasesPlaced true (as_cases after)
        → CasesPlaced true (cond b (node p below (as_cases after)) (node (case_for p) (node p below end) (as_cases after)))
    by true is rest = (placed.0, placed.1, rest)
    by false is rest = (λ yes. refl, (λ yes. false_true (is_source_of case_word p.source) is yes, placed.1, tt), rest)

same_placed : (f g : Nodes) (b : Bool) → SameNodes f g → CasesPlaced b f → CasesPlaced b g
same_placed end end b same placed = tt
same_placed end (node q c d) b same placed = absurd same
same_placed (node p below after) end b same placed = absurd same
same_placed (node p below after) (node q c d) b same placed = (
  λ is. placed.0 (ap (is_source_of case_word) same.0 ∙ is),
  subst (λ x. CasesPlaced x c) (ap (is_source_of choice_word) same.0) (same_placed below c (is_source_of choice_word p.source) same.2 placed.1),
  same_placed after d b same.3 placed.2,
)

-- ---- rows of statements

abbrev RowCases : Bool → Forest Source → Type 0
RowCases b end = Unit {0}
RowCases b (node s below after) = (is_source_of case_word s ≡ true → b ≡ true) × RowCases b after

row_true : (f : Forest Source) → RowCases true f
row_true end = tt
row_true (node s below after) = (λ is. refl, row_true after)

row_legal : (b : Bool) (home : ℕ) (allowed : List Allowed) (f : Forest Source) → (is_allowed case_word allowed ≡ true → b ≡ true) → IsLegal home allowed f → RowCases b f
row_legal b home allowed end may legal = tt
row_legal b home allowed (node s below after) may legal = (
  λ is. may (ap (λ k. is_allowed k allowed) (same_is case_word s.keyword is) ∙ legal.0.known),
  row_legal b home allowed after may legal.2,
)

row_none : (f : Forest Source) → is_some (first_with case_word f) ≡ false → RowCases false f
row_none end none = tt
row_none (node s below after) none = by (is_source_of case_word s) refl none (row_none after)
  where
    by : (b : Bool) → is_source_of case_word s ≡ b → is_some (cond b (Some s) (first_with case_word after)) ≡ false
        → (is_some (first_with case_word after) ≡ false → RowCases false after) → (is_source_of case_word s ≡ true → false ≡ true) × RowCases false after
    by true is none rest = absurd cc
    by false is none rest = (λ yes. sym is ∙ yes, rest none)

either : (a b c : Bool) → a ≡ true → b ≡ true → (not a || (not b || c)) ≡ true → c ≡ true
either true true c first second e = e
either true false c first second e = absurd cc
either false b c first second e = absurd cc

-- of statements that define nodes only a choice may have a case below it
only_choices : (k : Keyword) → defines_node k ≡ true → is_allowed case_word (rule_of k).substatements ≡ true → same_keyword choice_word k ≡ true
only_choices k defines allowed = either (defines_node k) (is_allowed case_word (rule_of k).substatements) (same_keyword choice_word k) defines allowed
    (of_each (λ k. not (defines_node k) || (not (is_allowed case_word (rule_of k).substatements) || same_keyword choice_word k)) refl k)

-- ---- laid rows

laid_placed : (home : ℕ) (allowed : List Allowed) (f : Forest Source) (b : Bool) → IsLegal home allowed f → RowCases b f → CasesPlaced b (laid f)
unfolding laid
laid_placed home allowed end b legal cases = tt
laid_placed home allowed (node s below after) b legal cases = by (defines_node s.keyword) refl (same_keyword uses_word s.keyword)
    (λ c those. laid_placed home (rule_of s.keyword).substatements below c legal.1 those)
    (laid_placed home allowed after b legal.2 cases.1)
  where
    Deeper : Type 0
    Deeper = (c : Bool) → RowCases c below → CasesPlaced c (laid below)

    inside : defines_node s.keyword ≡ true → Deeper → (c : Bool) → same_keyword choice_word s.keyword ≡ c → CasesPlaced c (cond c (as_cases (laid below)) (laid below))
    inside defines deeper true is = placed_cases (laid below) (deeper true (row_true below))
    inside defines deeper false is = deeper false
        (row_legal false home (rule_of s.keyword).substatements below (λ allowed. sym is ∙ only_choices s.keyword defines allowed) legal.1)

    by : (x : Bool) → defines_node s.keyword ≡ x → (y : Bool) → Deeper → CasesPlaced b (laid after)
        → CasesPlaced b (cond x (node (part_of s below) (within s (laid below)) (laid after)) (cond y (node (part_of s below) end (laid after)) (laid after)))
    by true defines y deeper rest = (cases.0, inside defines deeper (same_keyword choice_word s.keyword) refl, rest)
    by false defines true deeper rest = (cases.0, tt, rest)
    by false defines false deeper rest = rest

-- ---- what they are replaced by

placed_replaced : (meant : Part → Nodes) → ((u : Part) → CasesPlaced false (meant u)) → (owner : ℕ) (f : Nodes) (b : Bool) → CasesPlaced b f → CasesPlaced b (replaced meant owner f)
unfolding replaced
placed_replaced meant stands owner end b placed = tt
placed_replaced meant stands owner (node p below after) b placed =
    by (is_uses p) (placed_replaced meant stands owner below (is_source_of choice_word p.source) placed.1) (placed_replaced meant stands owner after b placed.2)
  where
    by : (x : Bool) → CasesPlaced (is_source_of choice_word p.source) (replaced meant owner below) → CasesPlaced b (replaced meant owner after)
        → CasesPlaced b (cond x (join (meant p) (replaced meant owner after)) (node (owned_by owner p) (replaced meant owner below) (replaced meant owner after)))
    by true inner rest = placed_joined b (meant p) (replaced meant owner after) (placed_anywhere b (meant p) (stands p)) rest
    by false inner rest = (placed.0, inner, rest)

-- ---- groupings

-- each statement has a legal row below it
abbrev LegalRow : Placed → Type 0
LegalRow p = (home : ℕ) × IsLegal home (rule_of p.source.keyword).substatements p.below

abbrev AllLegal : List Placed → Type 0
AllLegal [] = Unit {0}
AllLegal (p ∷ ps) = LegalRow p × AllLegal ps

legal_joined : (ps qs : List Placed) → AllLegal ps → AllLegal qs → AllLegal (ps ++ qs)
legal_joined [] qs first second = second
legal_joined (p ∷ ps) qs first second = (first.0, legal_joined ps qs first.1 second)

legal_placed : (home : ℕ) (allowed : List Allowed) (ancestors : List (Source × Forest Source)) (f : Forest Source) → IsLegal home allowed f → AllLegal (placed ancestors f)
unfolding placed
legal_placed home allowed ancestors end legal = tt
legal_placed home allowed ancestors (node s below after) legal = (
  (home, legal.1),
  legal_joined (placed ((s, below) ∷ ancestors) below) (placed ancestors after)
      (legal_placed home (rule_of s.keyword).substatements ((s, below) ∷ ancestors) below legal.1)
      (legal_placed home allowed ancestors after legal.2),
)

legal_statements : (home : ℕ) (f : Forest Source) → AreModules home f → AreAt home f → AllLegal (placed [] f)
unfolding placed
legal_statements home end legal at = tt
legal_statements home (node s below after) legal at = (
  (home, subst (λ k. IsLegal home (rule_of k).substatements below) (sym at.0) legal.1),
  legal_joined (placed ((s, below) ∷ []) below) (placed [] after)
      (legal_placed home (rule_of module_word).substatements ((s, below) ∷ []) below legal.1)
      (legal_statements (home + 1) after legal.2 at.2),
)

row_placed : (ps : List Placed) → AllLegal ps → (number : ℕ) → CasesPlaced false (row_in (filter_map grouping_at ps) number)
row_placed [] legal number = tt
row_placed (p ∷ ps) legal number = by (is_source_of grouping_word p.source) refl (row_placed ps legal.1 number)
  where
    rest : List Grouping
    rest = filter_map grouping_at ps

    this : Grouping
    this = record { number = p.source.number; row = laid p.below }

    none : is_source_of grouping_word p.source ≡ true → is_allowed case_word (rule_of p.source.keyword).substatements ≡ true → false ≡ true
    none is allowed = ap (λ k. is_allowed case_word (rule_of k).substatements) (same_is grouping_word p.source.keyword is) ∙ allowed

    here : is_source_of grouping_word p.source ≡ true → (b : Bool) → CasesPlaced false (row_in rest number)
        → CasesPlaced false (option_map_or (λ (g : Grouping). g.row) (cond b (Some this) (find (λ (g : Grouping). g.number == number) rest)) end)
    here is true others = laid_placed legal.0.0 (rule_of p.source.keyword).substatements p.below false legal.0.1
        (row_legal false legal.0.0 (rule_of p.source.keyword).substatements p.below (none is) legal.0.1)
    here is false others = others

    by : (b : Bool) → is_source_of grouping_word p.source ≡ b → CasesPlaced false (row_in rest number)
        → CasesPlaced false (row_in (cons_option (cond b (Some this) None) rest) number)
    by true is others = here is (p.source.number == number) others
    by false is others = others

AllPlaced : List Grouping → Type 0
AllPlaced groupings = (number : ℕ) → CasesPlaced false (row_in groupings number)

used_placed : (modules : Forest Source) (groupings : List Grouping) → AllPlaced groupings → (u : Part) → CasesPlaced false (row_used modules groupings u)
unfolding AllPlaced
used_placed modules groupings placed u = by (number_named modules u.source.number)
  where
    by : (o : Option ℕ) → CasesPlaced false (option_map_or (row_in groupings) o end)
    by None = tt
    by (Some number) = placed number

placed_stands : (modules : Forest Source) (groupings : List Grouping) → AllPlaced groupings → (owner depth : ℕ) (u : Part) → CasesPlaced false (stands_for modules groupings owner depth u)
unfolding stands_for
placed_stands modules groupings placed owner zero u = tt
placed_stands modules groupings placed owner (suc depth) u =
    let inner = replaced (stands_for modules groupings owner depth) owner (row_used modules groupings u) in
    same_placed inner (refined modules owner u.own inner) false (same_refined modules owner u.own inner)
    (placed_replaced (stands_for modules groupings owner depth) (placed_stands modules groupings placed owner depth) owner
    (row_used modules groupings u) false (used_placed modules groupings placed u))

module _ (modules : Forest Source) (stand : AllPlaced (groupings_of modules)) where
  placed_from : (home : ℕ) (f : Forest Source) → AreModules home f → CasesPlaced false (expanded_from modules (groupings_of modules) f)
  placed_from home end legal = tt
  placed_from home (node s below after) legal =
      placed_joined false _ (expanded_from modules (groupings_of modules) after)
      (placed_replaced (stands_for modules (groupings_of modules) s.home (suc (size modules)))
      (placed_stands modules (groupings_of modules) stand s.home (suc (size modules))) s.home (laid below) false
      (laid_placed home (rule_of module_word).substatements below false legal.1
      (row_legal false home (rule_of module_word).substatements below (λ allowed. absurd (let f : false ≡ true = allowed in cc)) legal.1)))
      (placed_from (home + 1) after legal.2)

  -- ---- what augments add

  -- it may stand in a choice, and elsewhere where no case is among it
  Adds : Augment → Type 0
  Adds a = CasesPlaced true (added_nodes modules a) × (is_some (first_with case_word a.given) ≡ false → CasesPlaced false (added_nodes modules a))

  AllAdd : List Augment → Type 0
  AllAdd [] = Unit {0}
  AllAdd (a ∷ others) = Adds a × AllAdd others

  adds_joined : (xs ys : List Augment) → AllAdd xs → AllAdd ys → AllAdd (xs ++ ys)
  unfolding AllAdd
  adds_joined [] ys first second = second
  adds_joined (a ∷ xs) ys first second = (first.0, adds_joined xs ys first.1 second)

  adds_in : (home : ℕ) (f : Forest Source) → IsLegal home (rule_of module_word).substatements f → AllAdd (augments_in f)
  unfolding AllAdd Adds
  adds_in home end legal = tt
  adds_in home (node s below after) legal = by (is_source_of augment_word s) (adds_in home after legal.2)
    where
      as_placed : (b : Bool) → RowCases b below → CasesPlaced b (added_nodes modules (record { source = s; given = below }))
      as_placed b cases = placed_replaced (stands_for modules (groupings_of modules) s.home (suc (size modules)))
          (placed_stands modules (groupings_of modules) stand s.home (suc (size modules))) s.home (laid below) b
          (laid_placed home (rule_of s.keyword).substatements below b legal.1 cases)

      by : (b : Bool) → AllAdd (augments_in after) → AllAdd (cond b (record { source = s; given = below } ∷ augments_in after) (augments_in after))
      by true rest = ((as_placed true (row_true below), λ none. as_placed false (row_none below none)), rest)
      by false rest = rest

  adds_of : (home : ℕ) (f : Forest Source) → AreModules home f → AllAdd (augments_of f)
  unfolding AllAdd
  adds_of home end legal = tt
  adds_of home (node s below after) legal = adds_joined (augments_in below) (augments_of after) (adds_in home below legal.1) (adds_of (home + 1) after legal.2)

same_marked : (number : ℕ) (f : Nodes) → SameNodes f (marked number f)
same_marked number end = tt
same_marked number (node p below after) = (refl, refl, same_itself below, same_marked number after)

not_true : (b : Bool) → not b ≡ true → b ≡ false
not_true true e = absurd cc
not_true false e = refl

module _ (number : ℕ) (given : Forest Source) (added : Nodes) (wide : CasesPlaced true added)
    (narrow : is_some (first_with case_word given) ≡ false → CasesPlaced false added) where
  change : Part → Nodes → Nodes → Nodes
  change = added_below number added

  here : (p : Part) (below after : Nodes) (b : Bool) → may_take p given ≡ true → CasesPlaced b (node p below after) → CasesPlaced b (change p below after)
  unfolding change
  here p below after b may placed = (
    placed.0,
    placed_joined (is_source_of choice_word p.source) below (marked number (within p.source added)) placed.1
        (same_placed (within p.source added) (marked number (within p.source added)) (is_source_of choice_word p.source) (same_marked number (within p.source added))
        (inside (is_source_of choice_word p.source) refl)),
    placed.2,
  )
    where
      inside : (c : Bool) → is_source_of choice_word p.source ≡ c → CasesPlaced c (cond c (as_cases added) added)
      inside true is = placed_cases added wide
      inside false is = narrow (ap (λ x. is_some (first_with (cond x uses_word case_word) given)) (sym is)
          ∙ not_true (is_some (first_with (kept_out p) given)) (and_parts (may_be_augmented p.source.keyword) (not (is_some (first_with (kept_out p) given))) may).1)

  Takes : Option Part → Type 0
  Takes found = option_map_or (λ p. may_take p given) found false ≡ true

  placed_last : (test : Part → Bool) (f : Nodes) (b : Bool) → CasesPlaced b f → Takes (find test (row f)) → CasesPlaced b (change_nth test 0 change f)
  unfolding Takes
  placed_last test end b placed takes = absurd cc
  placed_last test (node p below after) b placed takes = by (test p) takes (placed_last test after b placed.2)
    where
      by : (x : Bool) → Takes (cond x (Some p) (find test (row after))) → (Takes (find test (row after)) → CasesPlaced b (change_nth test 0 change after))
          → CasesPlaced b (cond x (change p below after) (node p below (change_nth test 0 change after)))
      by true takes rest = here p below after b takes placed
      by false takes rest = (placed.0, placed.1, rest takes)

  placed_nth : (test : Part → Bool) (next : NodeName) (steps : List NodeName) (f : Nodes) (b : Bool)
      → ((g : Nodes) (c : Bool) → CasesPlaced c g → Takes (part_at (next ∷ steps) g) → CasesPlaced c (changed_at (next ∷ steps) change g))
      → CasesPlaced b f → Takes (option_and_then (part_at (next ∷ steps)) (below_nth test 0 f))
      → CasesPlaced b (change_nth test 0 (λ p below after. node p (changed_at (next ∷ steps) change below) after) f)
  unfolding Takes
  placed_nth test next steps end b deeper placed takes = absurd cc
  placed_nth test next steps (node p below after) b deeper placed takes = by (test p) takes (placed_nth test next steps after b deeper placed.2)
    where
      rest : Nodes
      rest = change_nth test 0 (λ p below after. node p (changed_at (next ∷ steps) change below) after) after

      by : (x : Bool) → Takes (option_and_then (part_at (next ∷ steps)) (cond x (Some below) (below_nth test 0 after)))
          → (Takes (option_and_then (part_at (next ∷ steps)) (below_nth test 0 after)) → CasesPlaced b rest)
          → CasesPlaced b (cond x (node p (changed_at (next ∷ steps) change below) after) (node p below rest))
      by true takes others = (placed.0, deeper below (is_source_of choice_word p.source) placed.1 takes, placed.2)
      by false takes others = (placed.0, placed.1, others takes)

  pub placed_at : (steps : List NodeName) (f : Nodes) (b : Bool) → CasesPlaced b f → option_map_or (λ p. may_take p given) (part_at steps f) false ≡ true
      → CasesPlaced b (changed_at steps (added_below number added) f)
  unfolding change Takes
  placed_at [] f b placed takes = placed
  placed_at (step ∷ []) f b placed takes = placed_last (is_step step) f b placed takes
  placed_at (step ∷ next ∷ steps) f b placed takes = placed_nth (is_step step) next steps f b (placed_at (next ∷ steps)) placed takes

-- ---- all augments, one after another

module _ (modules : Forest Source) (stand : AllPlaced (groupings_of modules)) where
  Found : (Augment → Bool) → Augment × List Augment → Type 0
  Found test found = (test found.0 ≡ true) × Adds modules stand found.0 × AllAdd modules stand found.1

  taken : (test : Augment → Bool) (waiting : List Augment) (found : Augment × List Augment) → first_that test waiting ≡ Some found → AllAdd modules stand waiting → Found test found
  unfolding AllAdd Found
  taken test [] found e add = absurd cc
  taken test (a ∷ others) found e add = by (test a) refl (λ x is. taken test others x is add.1) e
    where
      later : ((x : Augment × List Augment) → first_that test others ≡ Some x → Found test x)
          → (o : Option (Augment × List Augment)) → first_that test others ≡ o → option_map (λ (x : Augment × List Augment). (x.0, a ∷ x.1)) o ≡ Some found → Found test found
      later deeper None is e = absurd cc
      later deeper (Some x) is e =
          let same : (x.0, a ∷ x.1) ≡ found = cc in
          let those = deeper x is in
          subst (Found test) same (those.0, those.1, (add.0, those.2))

      by : (b : Bool) → test a ≡ b → ((x : Augment × List Augment) → first_that test others ≡ Some x → Found test x)
          → cond b (Some (a, others)) (option_map (λ (x : Augment × List Augment). (x.0, a ∷ x.1)) (first_that test others)) ≡ Some found → Found test found
      by true is deeper e = let same : (a, others) ≡ found = cc in subst (Found test) same (is, add.0, add.1)
      by false is deeper e = later deeper (first_that test others) refl e

  placed_in_turn : (times : ℕ) (nodes : Nodes) (waiting : List Augment) → CasesPlaced false nodes → AllAdd modules stand waiting
      → CasesPlaced false (in_turn (is_ready modules) (applied modules) times nodes waiting).0
  unfolding in_turn Adds Found
  placed_in_turn zero nodes waiting are add = are
  placed_in_turn (suc times) nodes waiting are add = by (placed_in_turn times) (first_that (is_ready modules nodes) waiting) refl
    where
      more : Nodes → List Augment → Nodes × List Augment
      more = in_turn (is_ready modules) (applied modules) times

      by : ((n : Nodes) (w : List Augment) → CasesPlaced false n → AllAdd modules stand w → CasesPlaced false (more n w).0)
          → (o : Option (Augment × List Augment)) → first_that (is_ready modules nodes) waiting ≡ o
          → CasesPlaced false (done_first (applied modules) more nodes waiting o).0
      by deeper None e = are
      by deeper (Some found) e =
          let those = taken (is_ready modules nodes) waiting found e add in
          let a = found.0 in
          deeper (applied modules a nodes) found.1
          (placed_at a.source.number a.given (added_nodes modules a) those.1.0 those.1.1 (target_steps modules a) nodes false are those.0) those.2

placed_augmented : (f : Forest Source) → AreModules 0 f → AreAt 0 f → CasesPlaced false (augmented f).0
unfolding AllPlaced
placed_augmented f legal at =
    let placed = row_placed (statements_of f) (legal_statements 0 f legal at) in
    placed_in_turn f placed (length (augments_of f)) (expanded_parts f) (augments_of f) (placed_from f placed 0 f legal) (adds_of f placed 0 f legal)

-- ---- as schema nodes

case_kind : (plan : Plan) (p : Planned) (k : Keyword) → defines_node k ≡ true → is_case (kind_by plan p k) ≡ same_keyword case_word k
case_kind plan p k defines = by_definition k (λ k. is_case (kind_by plan p k) ≡ same_keyword case_word k) refl refl refl refl refl refl defines

choice_kind : (plan : Plan) (p : Planned) (k : Keyword) → defines_node k ≡ true → is_choice (kind_by plan p k) ≡ same_keyword choice_word k
choice_kind plan p k defines = by_definition k (λ k. is_choice (kind_by plan p k) ≡ same_keyword choice_word k) refl refl refl refl refl refl defines

cases_of_parts : (plan : Plan) (count next : ℕ) (around : Around) (f : Nodes) (b : Bool) → AreRight count f → CasesPlaced b f
    → CasesInChoices b (relabelled (schema_node plan) (planned next around f))
unfolding planned
cases_of_parts plan count next around end b right placed = tt
cases_of_parts plan count next around (node p below after) b right placed =
    let n = planned_node next around p in
    let k = p.source.keyword in (
      λ is. placed.0 (sym (case_kind plan n k right.0.defines) ∙ is),
      subst (λ c. CasesInChoices c (relabelled (schema_node plan) (planned (next + 1) (around_below next around p) below))) (sym (choice_kind plan n k right.0.defines))
          (cases_of_parts plan count (next + 1) (around_below next around p) below (is_source_of choice_word p.source) right.1 placed.1),
      cases_of_parts plan count _ around after b right.2 placed.2,
    )

pub linked_cases : (modules : Forest Statement) (schema : Schema) → compiled modules ≡ Ok schema → CasesInChoices false schema.nodes
linked_cases modules schema e =
    let i = compiles modules schema e in
    let sources = sources_of modules in
    subst (λ (s : Schema). CasesInChoices false s.nodes) i.is
    (cases_of_parts (plan_in modules) _ 0 _ (parts_in modules) false (right_plan modules i.none)
    (placed_augmented sources (are_modules 0 modules i.none.statements 0) (are_at 0 modules i.none.statements 0)))

-- ---- what is asked of configuration alone

pub cases-prop : (b : Bool) (f : Forest SchemaNode) → IsProp (CasesInChoices b f)
cases-prop b end = Unit-prop
cases-prop b (node n below after) = ×₃_prop (→_prop (Coded-set coded_bool _ _)) (cases-prop (is_choice n.kind) below) (cases-prop b after)

pub case_kept : (n : SchemaNode) → is_case (asked_node n).kind ≡ is_case n.kind
case_kept n = kept_by is_case by n
  where
    by : (k : Kind) → is_case (unasked k) ≡ is_case k
    by (container presence) = refl
    by (leaf type absence) = refl
    by (leaf_list type defaults amount) = refl
    by (list tuples amount) = refl
    by (choice default_case is_mandatory) = refl
    by case = refl

choice_kept : (n : SchemaNode) → is_choice (asked_node n).kind ≡ is_choice n.kind
choice_kept n = kept_by is_choice by n
  where
    by : (k : Kind) → is_choice (unasked k) ≡ is_choice k
    by (container presence) = refl
    by (leaf type absence) = refl
    by (leaf_list type defaults amount) = refl
    by (list tuples amount) = refl
    by (choice default_case is_mandatory) = refl
    by case = refl

pub cases_kept : (b : Bool) (f : Forest SchemaNode) → CasesInChoices b f → CasesInChoices b (relabelled asked_node f)
cases_kept b end cased = tt
cases_kept b (node n below after) cased = (
  λ is. cased.0 (sym (case_kept n) ∙ is),
  subst (λ c. CasesInChoices c (relabelled asked_node below)) (sym (choice_kept n)) (cases_kept (is_choice n.kind) below cased.1),
  cases_kept b after cased.2,
)

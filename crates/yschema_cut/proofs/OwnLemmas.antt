-- What holds of all statements of a set holds of all that its nodes state, wherever these come from.
use Rattle.std.proofs.Common.{◌≡◌, ℕ, zero, suc, Bool, true, false, cond, List, [], ◌∷◌, ◌++◌, ◌&&◌, length, Option, Some, None, refl, subst}
use Rattle.std.specs.Prelude.{find, option_map, ◌==◌}
use Rattle.std.specs.List.{filter_map, list_any, cons_option}
use Rattle.std.specs.Option.{option_map_or}
use Rattle.yspec.specs.Forest.{Forest, end, node, join, row, size, change_nth}
use Rattle.yspec.specs.linking.Keyword as word
use Rattle.yspec.specs.linking.Source.{Source, is_source_of}
use Rattle.yspec.specs.linking.Scopes.{Placed, placed, statements_of}
use Rattle.yspec.specs.linking.DerivedTypes.{number_named}
use Rattle.yspec.specs.linking.Prefixes.{NodeName}
use Rattle.yspec.specs.linking.Parts.{Part, defines_node, own_of, part_of, case_for, as_cases, within}
use Rattle.yspec.specs.linking.Expansion.{Grouping, laid, is_uses, grouping_at, groupings_of, row_in, row_used, is_refine, refine_steps, is_step, changed_at, others, owned_by, replaced}
use Rattle.yspec.specs.linking.Augments.{Augment, augments_in, augments_of, target_steps, marked, first_that, done_first, in_turn}
use Rattle.yspec_wide.specs.Language.{Language, core, rfc}
use Rattle.yspec_wide.specs.Sources.{is_guard, guard_row, without_guards}
use Rattle.yspec_wide.specs.Standing.{is_all_cut, is_default_off, is_implied_case, left_with, standing_by, with_default_on, without_default}
use Rattle.yspec_wide.specs.Expansion.{conditioned, is_fit_in, overridden_in, after_refine_in, refined_in, inner_augments, put_below, brought_by, is_fit_augment, after_augment, extended_by, stands_for_in, expanded_in, expanded_in_from, expanded_parts_in, added_nodes_in, is_ready_in, added_below_in, applied_in, augmented_in}

module _ (P : Source → Type 0) where
  -- of all statements of a row and below it
  abbrev pub Each : Forest Source → Type 0
  Each end = Unit {0}
  Each (node s below after) = P s × Each below × Each after

  -- and of all that the nodes of a row and below it state
  abbrev pub EachOwn : Forest Part → Type 0
  EachOwn end = Unit {0}
  EachOwn (node p below after) = Each p.own × EachOwn below × EachOwn after

  -- ---- rows of statements

  each_joined : (f g : Forest Source) → Each f → Each g → Each (join f g)
  each_joined end g first second = second
  each_joined (node s below after) g first second = (first.0, first.1, each_joined after g first.2 second)

  each_own : (f : Forest Source) → Each f → Each (own_of f)
  each_own end all = tt
  each_own (node s below after) all = by (defines_node s.keyword) (each_own after all.2)
    where
      by : (b : Bool) → Each (own_of after) → Each (cond b (own_of after) (node s below (own_of after)))
      by true rest = rest
      by false rest = (all.0, all.1, rest)

  each_other : (given f : Forest Source) → Each f → Each (others given f)
  each_other given end all = tt
  each_other given (node s below after) all = by (list_any (is_source_of s.keyword) (row given)) (each_other given after all.2)
    where
      by : (b : Bool) → Each (others given after) → Each (cond b (others given after) (node s below (others given after)))
      by true rest = rest
      by false rest = (all.0, all.1, rest)

  each_guard : (language : Language) (f : Forest Source) → Each f → Each (guard_row language f)
  each_guard language end all = tt
  each_guard language (node s below after) all = by (is_guard language s) (each_guard language after all.2)
    where
      by : (b : Bool) → Each (guard_row language after) → Each (cond b (node s below (guard_row language after)) (guard_row language after))
      by true rest = (all.0, all.1, rest)
      by false rest = rest

  -- ---- nodes

  own_joined : (f g : Forest Part) → EachOwn f → EachOwn g → EachOwn (join f g)
  own_joined end g first second = second
  own_joined (node p below after) g first second = (first.0, first.1, own_joined after g first.2 second)

  own_cases : (f : Forest Part) → EachOwn f → EachOwn (as_cases f)
  own_cases end all = tt
  own_cases (node p below after) all = by (is_source_of word.case_word p.source) (own_cases after all.2)
    where
      by : (b : Bool) → EachOwn (as_cases after) → EachOwn (cond b (node p below (as_cases after)) (node (case_for p) (node p below end) (as_cases after)))
      by true rest = (all.0, all.1, rest)
      by false rest = (tt, (all.0, all.1, tt), rest)

  own_within : (s : Source) (f : Forest Part) → EachOwn f → EachOwn (within s f)
  own_within s f all = by (is_source_of word.choice_word s)
    where
      by : (b : Bool) → EachOwn (cond b (as_cases f) f)
      by true = own_cases f all
      by false = all

  own_laid : (f : Forest Source) → Each f → EachOwn (laid f)
  unfolding laid
  own_laid end all = tt
  own_laid (node s below after) all =
      by (defines_node s.keyword) (is_source_of word.uses_word s) (each_own below all.1) (own_within s (laid below) (own_laid below all.1)) (own_laid after all.2)
    where
      by : (b c : Bool) → Each (own_of below) → EachOwn (within s (laid below)) → EachOwn (laid after)
          → EachOwn (cond b (node (part_of s below) (within s (laid below)) (laid after)) (cond c (node (part_of s below) end (laid after)) (laid after)))
      by true c own inner rest = (own, inner, rest)
      by false true own inner rest = (own, tt, rest)
      by false false own inner rest = rest

  own_marked : (number : ℕ) (f : Forest Part) → EachOwn f → EachOwn (marked number f)
  own_marked number end all = tt
  own_marked number (node p below after) all = (all.0, all.1, own_marked number after all.2)

  own_conditioned : (language : Language) (given : Forest Source) (f : Forest Part) → Each given → EachOwn f → EachOwn (conditioned language given f)
  own_conditioned language given end all own = tt
  own_conditioned language given (node p below after) all own = (
    each_joined p.own (guard_row language given) own.0 (each_guard language given all),
    own.1,
    own_conditioned language given after all own.2,
  )

  -- ---- nodes at a path that are changed

  module _ (change : Part → Forest Part → Forest Part → Forest Part)
      (keeps : (p : Part) (below after : Forest Part) → Each p.own → EachOwn below → EachOwn after → EachOwn (change p below after)) where
    own_first : (test : Part → Bool) (f : Forest Part) → EachOwn f → EachOwn (change_nth test 0 change f)
    own_first test end all = tt
    own_first test (node p below after) all = by (test p) (own_first test after all.2)
      where
        by : (b : Bool) → EachOwn (change_nth test 0 change after) → EachOwn (cond b (change p below after) (node p below (change_nth test 0 change after)))
        by true rest = keeps p below after all.0 all.1 all.2
        by false rest = (all.0, all.1, rest)

  own_below : (test : Part → Bool) (inner : Forest Part → Forest Part) → ((f : Forest Part) → EachOwn f → EachOwn (inner f))
      → (f : Forest Part) → EachOwn f → EachOwn (change_nth test 0 (λ p below after. node p (inner below) after) f)
  own_below test inner keeps f all = own_first (λ p below after. node p (inner below) after) (λ p below after own under rest. (own, keeps below under, rest)) test f all

  own_at : (change : Part → Forest Part → Forest Part → Forest Part)
      → ((p : Part) (below after : Forest Part) → Each p.own → EachOwn below → EachOwn after → EachOwn (change p below after))
      → (steps : List NodeName) (f : Forest Part) → EachOwn f → EachOwn (changed_at steps change f)
  own_at change keeps [] f all = all
  own_at change keeps (step ∷ []) f all = own_first change keeps (is_step step) f all
  own_at change keeps (step ∷ next ∷ steps) f all = own_below (is_step step) (changed_at (next ∷ steps) change) (own_at change keeps (next ∷ steps)) f all

  -- ---- refines and `uses`

  module _ (language : Language) (modules : Forest Source) where
    own_after : (owner : ℕ) (s : Source) (given : Forest Source) (f : Forest Part) → Each given → EachOwn f → EachOwn (after_refine_in language modules owner s given f)
    own_after owner s given f all own = by (is_refine s && is_fit_in language modules owner s given f)
      where
        by : (b : Bool) → EachOwn (cond b (changed_at (refine_steps modules owner s) (overridden_in language given) f) f)
        by true = own_at (overridden_in language given)
            (λ p below after mine under rest. (each_joined (others (without_guards language given) p.own) given (each_other (without_guards language given) p.own mine) all, under, rest))
            (refine_steps modules owner s) f own
        by false = own

    own_refined : (owner : ℕ) (given : Forest Source) (f : Forest Part) → Each given → EachOwn f → EachOwn (refined_in language modules owner given f)
    unfolding refined_in
    own_refined owner end f all own = own
    own_refined owner (node s given after) f all own =
        own_refined owner after (after_refine_in language modules owner s given f) all.2 (own_after owner s given f all.1 own)

  own_replaced : (meant : Part → Forest Part) → ((u : Part) → Each u.own → EachOwn (meant u)) → (owner : ℕ) (f : Forest Part) → EachOwn f → EachOwn (replaced meant owner f)
  unfolding replaced
  own_replaced meant keeps owner end all = tt
  own_replaced meant keeps owner (node p below after) all = by (is_uses p) (own_replaced meant keeps owner below all.1) (own_replaced meant keeps owner after all.2)
    where
      by : (b : Bool) → EachOwn (replaced meant owner below) → EachOwn (replaced meant owner after)
          → EachOwn (cond b (join (meant p) (replaced meant owner after)) (node (owned_by owner p) (replaced meant owner below) (replaced meant owner after)))
      by true inner rest = own_joined (meant p) (replaced meant owner after) (keeps p all.0) rest
      by false inner rest = (all.0, inner, rest)

  -- ---- groupings

  EachBelow : List Placed → Type 0
  EachBelow [] = Unit {0}
  EachBelow (p ∷ ps) = Each p.below × EachBelow ps

  below_joined : (ps qs : List Placed) → EachBelow ps → EachBelow qs → EachBelow (ps ++ qs)
  unfolding EachBelow
  below_joined [] qs first second = second
  below_joined (p ∷ ps) qs first second = (first.0, below_joined ps qs first.1 second)

  below_placed : (ancestors : List (Source × Forest Source)) (f : Forest Source) → Each f → EachBelow (placed ancestors f)
  unfolding placed EachBelow
  below_placed ancestors end all = tt
  below_placed ancestors (node s below after) all = (
    all.1,
    below_joined (placed ((s, below) ∷ ancestors) below) (placed ancestors after) (below_placed ((s, below) ∷ ancestors) below all.1) (below_placed ancestors after all.2),
  )

  own_row : (ps : List Placed) → EachBelow ps → (number : ℕ) → EachOwn (row_in (filter_map grouping_at ps) number)
  unfolding EachBelow
  own_row [] all number = tt
  own_row (p ∷ ps) all number = by (is_source_of word.grouping_word p.source) (own_row ps all.1 number)
    where
      rest : List Grouping
      rest = filter_map grouping_at ps

      this : Grouping
      this = record { number = p.source.number; row = laid p.below }

      here : (b : Bool) → EachOwn (row_in rest number)
          → EachOwn (option_map_or (λ (g : Grouping). g.row) (cond b (Some this) (find (λ (g : Grouping). g.number == number) rest)) end)
      here true others = own_laid p.below all.0
      here false others = others

      by : (b : Bool) → EachOwn (row_in rest number) → EachOwn (row_in (cons_option (cond b (Some this) None) rest) number)
      by true others = here (p.source.number == number) others
      by false others = others

  -- ---- those of a set

  module _ (language : Language) (modules : Forest Source) (all : Each modules) where
    own_used : (u : Part) → EachOwn (row_used modules (groupings_of modules) u)
    own_used u = by (number_named modules u.source.number)
      where
        by : (o : Option ℕ) → EachOwn (option_map_or (row_in (groupings_of modules)) o end)
        by None = tt
        by (Some number) = own_row (statements_of modules) (below_placed [] modules all) number

    EachGiven : List Augment → Type 0
    EachGiven [] = Unit {0}
    EachGiven (a ∷ augments) = Each a.given × EachGiven augments

    given_joined : (xs ys : List Augment) → EachGiven xs → EachGiven ys → EachGiven (xs ++ ys)
    unfolding EachGiven
    given_joined [] ys first second = second
    given_joined (a ∷ xs) ys first second = (first.0, given_joined xs ys first.1 second)

    given_in : (f : Forest Source) → Each f → EachGiven (augments_in f)
    unfolding EachGiven
    given_in end each = tt
    given_in (node s given after) each = by (is_source_of word.augment_word s) (given_in after each.2)
      where
        by : (b : Bool) → EachGiven (augments_in after) → EachGiven (cond b (record { source = s; given = given } ∷ augments_in after) (augments_in after))
        by true rest = (each.1, rest)
        by false rest = rest

    given_inner : (l : Language) (f : Forest Source) → Each f → EachGiven (inner_augments l f)
    unfolding EachGiven
    given_inner core f each = tt
    given_inner (rfc wide) f each = given_in f each

    own_extended : (meant : Part → Forest Part) → ((u : Part) → Each u.own → EachOwn (meant u)) → (owner : ℕ) (xs : List Augment) (f : Forest Part) → EachGiven xs → EachOwn f
        → EachOwn (extended_by language meant modules owner xs f)
    unfolding extended_by EachGiven
    own_extended meant keeps owner [] f given own = own
    own_extended meant keeps owner (a ∷ xs) f given own =
        own_extended meant keeps owner xs (after_augment language meant modules owner a f) given.1 (by (is_fit_augment language modules owner f a))
      where
        new : EachOwn (brought_by language meant owner a)
        new = own_conditioned language a.given (replaced meant owner (laid a.given)) given.0
            (own_replaced meant keeps owner (laid a.given) (own_laid a.given given.0))

        by : (b : Bool) → EachOwn (cond b (changed_at (refine_steps modules owner a.source) (put_below (brought_by language meant owner a)) f) f)
        by true = own_at (put_below (brought_by language meant owner a))
            (λ p below after mine under rest. (mine, own_joined below (within p.source (brought_by language meant owner a)) under (own_within p.source (brought_by language meant owner a) new), rest))
            (refine_steps modules owner a.source) f own
        by false = own

    own_stands : (owner depth : ℕ) (u : Part) → Each u.own → EachOwn (stands_for_in language modules (groupings_of modules) owner depth u)
    unfolding stands_for_in
    own_stands owner zero u own = tt
    own_stands owner (suc depth) u own =
        let meant = stands_for_in language modules (groupings_of modules) owner depth in
        let inner = replaced meant owner (row_used modules (groupings_of modules) u) in
        let refined = refined_in language modules owner u.own inner in
        own_conditioned language u.own (extended_by language meant modules owner (inner_augments language u.own) refined) own
        (own_extended meant (own_stands owner depth) owner (inner_augments language u.own) refined (given_inner language u.own own)
        (own_refined language modules owner u.own inner own
        (own_replaced meant (own_stands owner depth) owner (row_used modules (groupings_of modules) u) (own_used u))))

    own_expanded : (owner : ℕ) (f : Forest Part) → EachOwn f → EachOwn (expanded_in language modules (groupings_of modules) owner f)
    own_expanded owner f own =
        own_replaced (stands_for_in language modules (groupings_of modules) owner (suc (size modules))) (own_stands owner (suc (size modules))) owner f own

    own_from : (f : Forest Source) → Each f → EachOwn (expanded_in_from language modules (groupings_of modules) f)
    own_from end each = tt
    own_from (node s below after) each = own_joined (expanded_in language modules (groupings_of modules) s.home (laid below)) (expanded_in_from language modules (groupings_of modules) after)
        (own_expanded s.home (laid below) (own_laid below each.1)) (own_from after each.2)

    -- ---- augments

    given_of : (f : Forest Source) → Each f → EachGiven (augments_of f)
    unfolding EachGiven
    given_of end each = tt
    given_of (node s below after) each = given_joined (augments_in below) (augments_of after) (given_in below each.1) (given_of after each.2)

    own_applied : (a : Augment) (f : Forest Part) → Each a.given → EachOwn f → EachOwn (applied_in language modules a f)
    own_applied a f given own =
        let added = added_nodes_in language modules a in
        let new : EachOwn added = own_conditioned language a.given (expanded_in language modules (groupings_of modules) a.source.home (laid a.given)) given
        (own_expanded a.source.home (laid a.given) (own_laid a.given given)) in
        own_at (added_below_in language a added)
        (λ p below after mine under rest. (mine, own_joined below (marked a.source.number (within p.source added)) under (own_marked a.source.number (within p.source added) (own_within p.source added new)), rest))
        (target_steps modules a) f own

    taken_given : (test : Augment → Bool) (waiting : List Augment) (found : Augment × List Augment) → first_that test waiting ≡ Some found → EachGiven waiting
        → Each found.0.given × EachGiven found.1
    unfolding EachGiven
    taken_given test [] found e given = absurd cc
    taken_given test (a ∷ more) found e given = by (test a) e (first_that test more) refl (λ x is. taken_given test more x is given.1)
      where
        Right : Augment × List Augment → Type 0
        Right x = Each x.0.given × EachGiven x.1

        later : (o : Option (Augment × List Augment)) → ((x : Augment × List Augment) → o ≡ Some x → Each x.0.given × EachGiven x.1)
            → option_map (λ (x : Augment × List Augment). (x.0, a ∷ x.1)) o ≡ Some found → Each found.0.given × EachGiven found.1
        later None deeper e = absurd cc
        later (Some x) deeper e =
            let same : (x.0, a ∷ x.1) ≡ found = cc in
            let those = deeper x refl in
            subst (λ (y : Augment × List Augment). Each y.0.given × EachGiven y.1) same (those.0, (given.0, those.1))

        by : (b : Bool) → cond b (Some (a, more)) (option_map (λ (x : Augment × List Augment). (x.0, a ∷ x.1)) (first_that test more)) ≡ Some found
            → (o : Option (Augment × List Augment)) → first_that test more ≡ o → ((x : Augment × List Augment) → first_that test more ≡ Some x → Each x.0.given × EachGiven x.1)
            → Each found.0.given × EachGiven found.1
        by true e o is deeper = let same : (a, more) ≡ found = cc in subst (λ (y : Augment × List Augment). Each y.0.given × EachGiven y.1) same (given.0, given.1)
        by false e o is deeper = later (first_that test more) deeper e

    own_in_turn : (times : ℕ) (f : Forest Part) (waiting : List Augment) → EachOwn f → EachGiven waiting
        → EachOwn (in_turn (is_ready_in language modules) (applied_in language modules) times f waiting).0
    unfolding in_turn
    own_in_turn zero f waiting own given = own
    own_in_turn (suc times) f waiting own given = by (own_in_turn times) (first_that (is_ready_in language modules f) waiting) refl
      where
        more : Forest Part → List Augment → Forest Part × List Augment
        more = in_turn (is_ready_in language modules) (applied_in language modules) times

        by : ((g : Forest Part) (w : List Augment) → EachOwn g → EachGiven w → EachOwn (more g w).0)
            → (o : Option (Augment × List Augment)) → first_that (is_ready_in language modules f) waiting ≡ o
            → EachOwn (done_first (applied_in language modules) more f waiting o).0
        by deeper None e = own
        by deeper (Some found) e =
            let taken = taken_given (is_ready_in language modules f) waiting found e given in
            deeper (applied_in language modules found.0 f) found.1 (own_applied found.0 f taken.0 own) taken.1

    pub own_augmented : EachOwn (augmented_in language modules).0
    own_augmented = own_in_turn (length (augments_of modules)) (expanded_parts_in language modules) (augments_of modules)
        (own_from modules all) (given_of modules all)

  -- ---- those that stand

  each_default : (f : Forest Source) → Each f → Each (without_default f)
  each_default end all = tt
  each_default (node s below after) all = by (is_source_of word.default_word s) (each_default after all.2)
    where
      by : (b : Bool) → Each (without_default after) → Each (cond b (without_default after) (node s below (without_default after)))
      by true rest = rest
      by false rest = (all.0, all.1, rest)

  each_left : (p : Part) (cases standing : Forest Part) → Each p.own → Each (with_default_on p cases standing).own
  each_left p cases standing own = by (is_default_off p cases standing)
    where
      by : (b : Bool) → Each (cond b (record p { own = without_default p.own }) p).own
      by true = each_default p.own own
      by false = own

  own_left : (p : Part) (below standing after : Forest Part) → Each p.own → EachOwn standing → EachOwn after → EachOwn (left_with p below standing after)
  own_left p below standing after own inner rest = by (is_implied_case p && is_all_cut below standing)
    where
      by : (b : Bool) → EachOwn (cond b after (node (with_default_on p below standing) standing after))
      by true = rest
      by false = (each_left p below standing own, inner, rest)

  pub own_left_standing : (holds : Part → Bool) (f : Forest Part) → EachOwn f → EachOwn (standing_by holds f)
  unfolding standing_by
  own_left_standing holds end all = tt
  own_left_standing holds (node p below after) all = by (holds p) (own_left_standing holds below all.1) (own_left_standing holds after all.2)
    where
      by : (b : Bool) → EachOwn (standing_by holds below) → EachOwn (standing_by holds after)
          → EachOwn (cond b (left_with p below (standing_by holds below) (standing_by holds after)) (standing_by holds after))
      by true inner rest = own_left p below (standing_by holds below) (standing_by holds after) all.0 inner rest
      by false inner rest = rest

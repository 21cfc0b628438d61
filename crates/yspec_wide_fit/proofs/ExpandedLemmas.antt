-- The parts of legal modules are sound: groupings and augments expanded in a language, and those of them that stand.
use Rattle.std.proofs.Common.{◌≡◌, ℕ, zero, suc, ◌+◌, ◌<◌, Bool, true, false, cond, not, ◌&&◌, List, [], ◌∷◌, ◌++◌, length, Option, Some, None, refl, sym, ap, ◌∙◌, subst, arith}
use Rattle.std.proofs.lemmas.Bool.{and_parts}
use Rattle.std.specs.Prelude.{find, is_some, option_map, option_and_then, ◌==◌}
use Rattle.std.specs.List.{filter_map, cons_option}
use Rattle.std.specs.Option.{option_map_or}
use Rattle.yspec.specs.Forest.{Forest, end, node, row, join, size, change_nth, below_nth}
use Rattle.yspec.specs.linking.Keyword.{Keyword, same_keyword, case_word, module_word, uses_word, grouping_word, augment_word}
use Rattle.yspec.specs.linking.Source.{Source, is_source_of, first_with}
use Rattle.yspec.specs.linking.Scopes.{Placed, placed, statements_of}
use Rattle.yspec.specs.linking.DerivedTypes.{number_named}
use Rattle.yspec.specs.linking.Parts.{Part, as_cases, within}
use Rattle.yspec.specs.linking.Prefixes.{NodeName}
use Rattle.yspec.specs.linking.Planned.{Plan}
use Rattle.yspec.specs.linking.Compiling.{schema_modules}
use Rattle.yspec.specs.linking.Expansion.{Grouping, laid, grouping_at, groupings_of, row_in, row_used, replaced, is_step, part_at, changed_at, is_refine, refine_steps}
use Rattle.yspec.specs.linking.Augments.{Augment, augments_in, augments_of, target_steps, may_be_augmented, kept_out, may_take, marked, first_that, done_first, in_turn}
use Rattle.yspec.proofs.LinkingProofs.KeywordLemmas.{of_each, same_is}
use Rattle.yspec.proofs.LinkingProofs.ExpansionLemmas.{SameNodes, same_itself}
use Rattle.yspec_wide.specs.Language.{Language, core, rfc}
use Rattle.yspec_wide.specs.Expansion.{conditioned, is_closed, is_fit_in, overridden_in, after_refine_in, refined_in, inner_augments, brought_by, is_fit_augment, put_below, after_augment, extended_by, stands_for_in, expanded_in_from, expanded_parts_in, added_nodes_in, may_take_in, is_choice_in_choice, is_ready_in, applied_in, augmented_in}
use Rattle.yspec_wide.specs.Standing.{is_implied_case, is_all_cut, is_default_off, without_default, standing_by}
use Rattle.yspec_wide_fit.proofs.LegalLemmas.{may_stand, IsLegal, AreModules, has_none}
use Rattle.yspec_wide_fit.proofs.SoundLemmas.{is_leaf_word, is_choice_part, Row, elsewhere, anywhere, row_below, AreSound, sound_joined, sound_cases, same_sound, row_anywhere, row_legal, row_none, RowStands, IsUsedAt, AreLaid, laid_right, sound_replaced}

-- ---- what changes nothing but what nodes state

same_by_way : (f g h : Forest Part) → SameNodes f g → SameNodes g h → SameNodes f h
same_by_way end end h first second = second
same_by_way end (node q c d) h first second = absurd first
same_by_way (node p b a) end h first second = absurd first
same_by_way (node p b a) (node q c d) end first second = absurd second
same_by_way (node p b a) (node q c d) (node r i o) first second = (
  first.0 ∙ second.0,
  first.1 ∙ second.1,
  same_by_way b c i first.2 second.2,
  same_by_way a d o first.3 second.3,
)

abbrev KeepsNodes : (Part → Forest Part → Forest Part → Forest Part) → Type 0
KeepsNodes change = (p : Part) (below after : Forest Part) → SameNodes (node p below after) (change p below after)

same_nth : (test : Part → Bool) (change : Part → Forest Part → Forest Part → Forest Part) → KeepsNodes change → (f : Forest Part) → SameNodes f (change_nth test 0 change f)
same_nth test change keeps end = tt
same_nth test change keeps (node p below after) = by (test p) (same_nth test change keeps after)
  where
    by : (b : Bool) → SameNodes after (change_nth test 0 change after)
        → SameNodes (node p below after) (cond b (change p below after) (node p below (change_nth test 0 change after)))
    by true rest = keeps p below after
    by false rest = (refl, refl, same_itself below, rest)

same_at : (steps : List NodeName) (change : Part → Forest Part → Forest Part → Forest Part) → KeepsNodes change → (f : Forest Part) → SameNodes f (changed_at steps change f)
same_at [] change keeps f = same_itself f
same_at (step ∷ []) change keeps f = same_nth (is_step step) change keeps f
same_at (step ∷ next ∷ steps) change keeps f = same_nth (is_step step) (λ p below after. node p (changed_at (next ∷ steps) change below) after)
    (λ p below after. (refl, refl, same_at (next ∷ steps) change keeps below, same_itself after)) f

same_conditioned : (language : Language) (given : Forest Source) (f : Forest Part) → SameNodes f (conditioned language given f)
same_conditioned language given end = tt
same_conditioned language given (node p below after) = (refl, refl, same_itself below, same_conditioned language given after)

same_marked : (number : ℕ) (f : Forest Part) → SameNodes f (marked number f)
same_marked number end = tt
same_marked number (node p below after) = (refl, refl, same_itself below, same_marked number after)

module _ (language : Language) (modules : Forest Source) (owner : ℕ) where
  same_after : (s : Source) (given : Forest Source) (f : Forest Part) → SameNodes f (after_refine_in language modules owner s given f)
  same_after s given f = by (is_refine s && is_fit_in language modules owner s given f)
    where
      by : (b : Bool) → SameNodes f (cond b (changed_at (refine_steps modules owner s) (overridden_in language given) f) f)
      by true = same_at (refine_steps modules owner s) (overridden_in language given) (λ p below after. (refl, refl, same_itself below, same_itself after)) f
      by false = same_itself f

  same_refined : (own : Forest Source) (f : Forest Part) → SameNodes f (refined_in language modules owner own f)
  unfolding refined_in
  same_refined end f = same_itself f
  same_refined (node s given after) f =
      let next = after_refine_in language modules owner s given f in
      same_by_way f next (refined_in language modules owner after next) (same_after s given f) (same_refined after next)

-- ---- below a target

no_leaf : (k : Keyword) → may_be_augmented k ≡ true → is_leaf_word k ≡ false
no_leaf k may = by (is_leaf_word k) (may_be_augmented k) may (of_each (λ k. not (may_be_augmented k && is_leaf_word k)) refl k)
  where
    by : (l m : Bool) → m ≡ true → not (m && l) ≡ true → l ≡ false
    by false m is e = refl
    by true true is e = absurd cc
    by true false is e = absurd cc

not_true : (b : Bool) → not b ≡ true → b ≡ false
not_true true e = absurd cc
not_true false e = refl

module _ (count : ℕ) (told : Forest Part → Forest Part) (alike : (f : Forest Part) → SameNodes f (told f)) (given : Forest Source) (added : Forest Part)
    (every : AreSound count anywhere added) (plain : is_some (first_with case_word given) ≡ false → AreSound count elsewhere added) where
  abbrev change : Part → Forest Part → Forest Part → Forest Part
  change p below after = node p (join below (told (within p.source added))) after

  here : (p : Part) (below after : Forest Part) (r : Row) → may_take p given ≡ true → AreSound count r (node p below after) → AreSound count r (change p below after)
  here p below after r may sound =
      let augmented : may_be_augmented p.source.keyword ≡ true = (and_parts (may_be_augmented p.source.keyword) (not (is_some (first_with (kept_out p) given))) may).0 in (
        sound.0,
        record {
          defines = sound.1.defines;
          name = sound.1.name;
          owner = sound.1.owner;
          bare = λ leaf. absurd (let no : false ≡ true = sym (no_leaf p.source.keyword augmented) ∙ leaf in cc);
        },
        sound_joined count (row_below (is_choice_part p)) below (told (within p.source added)) sound.2
            (same_sound count (row_below (is_choice_part p)) (within p.source added) (told (within p.source added)) (alike (within p.source added))
            (inside (is_choice_part p) refl)),
        sound.3,
      )
    where
      inside : (c : Bool) → is_choice_part p ≡ c → AreSound count (row_below c) (cond c (as_cases added) added)
      inside true is = sound_cases count added every
      inside false is = plain (ap (λ x. is_some (first_with (cond x uses_word case_word) given)) (sym is)
          ∙ not_true (is_some (first_with (kept_out p) given)) (and_parts (may_be_augmented p.source.keyword) (not (is_some (first_with (kept_out p) given))) may).1)

  end_at : (steps : List NodeName) → changed_at steps change end ≡ end
  end_at [] = refl
  end_at (step ∷ []) = refl
  end_at (step ∷ next ∷ steps) = refl

  Takes : Option Part → Type 0
  Takes found = option_map_or (λ p. may_take p given) found false ≡ true

  sound_last : (test : Part → Bool) (f : Forest Part) (r : Row) → AreSound count r f → Takes (find test (row f)) → AreSound count r (change_nth test 0 change f)
  unfolding Takes
  sound_last test end r sound takes = absurd cc
  sound_last test (node p below after) r sound takes = by (test p) takes (sound_last test after r sound.3)
    where
      by : (x : Bool) → Takes (cond x (Some p) (find test (row after))) → (Takes (find test (row after)) → AreSound count r (change_nth test 0 change after))
          → AreSound count r (cond x (change p below after) (node p below (change_nth test 0 change after)))
      by true takes rest = here p below after r takes sound
      by false takes rest = (sound.0, sound.1, sound.2, rest takes)

  sound_nth : (test : Part → Bool) (next : NodeName) (steps : List NodeName) (f : Forest Part) (r : Row)
      → ((g : Forest Part) (q : Row) → AreSound count q g → Takes (part_at (next ∷ steps) g) → AreSound count q (changed_at (next ∷ steps) change g))
      → AreSound count r f → Takes (option_and_then (part_at (next ∷ steps)) (below_nth test 0 f))
      → AreSound count r (change_nth test 0 (λ p below after. node p (changed_at (next ∷ steps) change below) after) f)
  unfolding Takes
  sound_nth test next steps end r deeper sound takes = absurd cc
  sound_nth test next steps (node p below after) r deeper sound takes = by (test p) takes (sound_nth test next steps after r deeper sound.3)
    where
      rest : Forest Part
      rest = change_nth test 0 (λ p below after. node p (changed_at (next ∷ steps) change below) after) after

      by : (x : Bool) → Takes (option_and_then (part_at (next ∷ steps)) (cond x (Some below) (below_nth test 0 after)))
          → (Takes (option_and_then (part_at (next ∷ steps)) (below_nth test 0 after)) → AreSound count r rest)
          → AreSound count r (cond x (node p (changed_at (next ∷ steps) change below) after) (node p below rest))
      by true takes others = (
        sound.0,
        record {
          defines = sound.1.defines;
          name = sound.1.name;
          owner = sound.1.owner;
          bare = λ leaf. ap (changed_at (next ∷ steps) change) (sound.1.bare leaf) ∙ end_at (next ∷ steps);
        },
        deeper below (row_below (is_choice_part p)) sound.2 takes,
        sound.3,
      )
      by false takes others = (sound.0, sound.1, sound.2, others takes)

  pub sound_at : (steps : List NodeName) (f : Forest Part) (r : Row) → AreSound count r f → option_map_or (λ p. may_take p given) (part_at steps f) false ≡ true
      → AreSound count r (changed_at steps change f)
  unfolding Takes
  sound_at [] f r sound takes = sound
  sound_at (step ∷ []) f r sound takes = sound_last (is_step step) f r sound takes
  sound_at (step ∷ next ∷ steps) f r sound takes = sound_nth (is_step step) next steps f r (sound_at (next ∷ steps)) sound takes

-- an augment that is ready in a language is so without one
takes_of : (language : Language) (modules : Forest Source) (a : Augment) (o : Option Part) → option_map_or (may_take_in language modules a) o false ≡ true → option_map_or (λ p. may_take p a.given) o false ≡ true
takes_of language modules a None e = absurd cc
takes_of language modules a (Some p) e = by (may_be_augmented p.source.keyword) (not (is_some (first_with (kept_out p) a.given))) (not (is_choice_in_choice language modules a p))
    (not (is_closed language a.given p.source)) e
  where
    by : (x y z w : Bool) → ((x && (y && z)) && w) ≡ true → (x && y) ≡ true
    by true true z w e = refl
    by true false z w e = absurd cc
    by false y z w e = absurd cc

-- ---- groupings

-- each statement has a legal row below it
abbrev LegalRow : Placed → Type 0
LegalRow p = (home : ℕ) × IsLegal home (may_stand p.source.keyword) p.below

AllLegal : List Placed → Type 0
AllLegal [] = Unit {0}
AllLegal (p ∷ ps) = LegalRow p × AllLegal ps

legal_joined : (ps qs : List Placed) → AllLegal ps → AllLegal qs → AllLegal (ps ++ qs)
unfolding AllLegal
legal_joined [] qs first second = second
legal_joined (p ∷ ps) qs first second = (first.0, legal_joined ps qs first.1 second)

legal_placed : (home : ℕ) (allowed : List _) (ancestors : List (Source × Forest Source)) (f : Forest Source) → IsLegal home allowed f → AllLegal (placed ancestors f)
unfolding placed AllLegal
legal_placed home allowed ancestors end legal = tt
legal_placed home allowed ancestors (node s below after) legal = (
  (home, legal.1),
  legal_joined (placed ((s, below) ∷ ancestors) below) (placed ancestors after)
      (legal_placed home (may_stand s.keyword) ((s, below) ∷ ancestors) below legal.1)
      (legal_placed home allowed ancestors after legal.2),
)

legal_statements : (home : ℕ) (f : Forest Source) → AreModules home f → AllLegal (placed [] f)
unfolding placed AllLegal
legal_statements home end legal = tt
legal_statements home (node s below after) legal = (
  (home, subst (λ k. IsLegal home (may_stand k) below) (sym legal.0) legal.3),
  legal_joined (placed ((s, below) ∷ []) below) (placed [] after)
      (legal_placed home (may_stand module_word) ((s, below) ∷ []) below legal.3)
      (legal_statements (home + 1) after legal.4),
)

row_laid : (ps : List Placed) → AllLegal ps → (number : ℕ) → AreLaid elsewhere (row_in (filter_map grouping_at ps) number)
unfolding AllLegal
row_laid [] legal number = tt
row_laid (p ∷ ps) legal number = by (is_source_of grouping_word p.source) refl (row_laid ps legal.1 number)
  where
    rest : List Grouping
    rest = filter_map grouping_at ps

    this : Grouping
    this = record { number = p.source.number; row = laid p.below }

    here : is_source_of grouping_word p.source ≡ true → (b : Bool) → AreLaid elsewhere (row_in rest number)
        → AreLaid elsewhere (option_map_or (λ (g : Grouping). g.row) (cond b (Some this) (find (λ (g : Grouping). g.number == number) rest)) end)
    here is true others = laid_right legal.0.0 (may_stand p.source.keyword) p.below elsewhere legal.0.1
        (row_legal legal.0.0 (may_stand p.source.keyword) p.below (ap (λ k. has_none (same_keyword case_word) (may_stand k)) (sym (same_is grouping_word p.source.keyword is))) legal.0.1)
    here is false others = others

    by : (b : Bool) → is_source_of grouping_word p.source ≡ b → AreLaid elsewhere (row_in rest number)
        → AreLaid elsewhere (row_in (cons_option (cond b (Some this) None) rest) number)
    by true is others = here is (p.source.number == number) others
    by false is others = others

module _ (language : Language) (count : ℕ) (modules : Forest Source) (right : (number : ℕ) → AreLaid elsewhere (row_in (groupings_of modules) number)) where
  used_laid : (u : Part) → AreLaid elsewhere (row_used modules (groupings_of modules) u)
  used_laid u = by (number_named modules u.source.number)
    where
      by : (o : Option ℕ) → AreLaid elsewhere (option_map_or (row_in (groupings_of modules)) o end)
      by None = tt
      by (Some number) = right number

  -- what one augment adds, given what each `uses` stands for
  module _ (meant : Part → Forest Part) (sound : (u : Part) → IsUsedAt u → AreSound count elsewhere (meant u)) (owner : ℕ) (few : owner < count) where
    brought_in : (home : ℕ) (a : Augment) (r : Row) → IsLegal home (may_stand augment_word) a.given → RowStands r a.given
        → AreSound count r (brought_by language meant owner a)
    brought_in home a r legal stands =
        let those = replaced meant owner (laid a.given) in
        same_sound count r those (conditioned language a.given those) (same_conditioned language a.given those)
        (sound_replaced count meant sound owner few r (laid a.given) (laid_right home (may_stand augment_word) a.given r legal stands))

    AllLegalAt : ℕ → List Augment → Type 0
    AllLegalAt home [] = Unit {0}
    AllLegalAt home (a ∷ others) = IsLegal home (may_stand augment_word) a.given × AllLegalAt home others

    legal_in : (home : ℕ) (allowed : List _) (f : Forest Source) → IsLegal home allowed f → AllLegalAt home (augments_in f)
    unfolding AllLegalAt
    legal_in home allowed end legal = tt
    legal_in home allowed (node s below after) legal = by (is_source_of augment_word s) refl (legal_in home allowed after legal.2)
      where
        by : (b : Bool) → is_source_of augment_word s ≡ b → AllLegalAt home (augments_in after)
            → AllLegalAt home (cond b (record { source = s; given = below } ∷ augments_in after) (augments_in after))
        by true is rest = (subst (λ k. IsLegal home (may_stand k) below) (sym (same_is augment_word s.keyword is)) legal.1, rest)
        by false is rest = rest

    legal_inner : (l : Language) (home : ℕ) (allowed : List _) (f : Forest Source) → IsLegal home allowed f → AllLegalAt home (inner_augments l f)
    unfolding AllLegalAt
    legal_inner core home allowed f legal = tt
    legal_inner (rfc wide) home allowed f legal = legal_in home allowed f legal

    sound_after : (home : ℕ) (a : Augment) (nodes : Forest Part) → IsLegal home (may_stand augment_word) a.given → AreSound count elsewhere nodes
        → AreSound count elsewhere (after_augment language meant modules owner a nodes)
    sound_after home a nodes legal are = by (is_fit_augment language modules owner nodes a) refl
      where
        by : (b : Bool) → is_fit_augment language modules owner nodes a ≡ b
            → AreSound count elsewhere (cond b (changed_at (refine_steps modules owner a.source) (put_below (brought_by language meant owner a)) nodes) nodes)
        by true is = sound_at count (λ f. f) same_itself a.given (brought_by language meant owner a)
            (brought_in home a anywhere legal (row_anywhere a.given)) (λ none. brought_in home a elsewhere legal (row_none a.given none))
            (refine_steps modules owner a.source) nodes elsewhere are (takes_of language modules a (part_at (refine_steps modules owner a.source) nodes) is)
        by false is = are

    sound_extended : (home : ℕ) (xs : List Augment) (nodes : Forest Part) → AllLegalAt home xs → AreSound count elsewhere nodes
        → AreSound count elsewhere (extended_by language meant modules owner xs nodes)
    unfolding extended_by AllLegalAt
    sound_extended home [] nodes legal are = are
    sound_extended home (a ∷ xs) nodes legal are =
        sound_extended home xs (after_augment language meant modules owner a nodes) legal.1 (sound_after home a nodes legal.0 are)

  sound_stands : (owner : ℕ) → owner < count → (depth : ℕ) (u : Part) → IsUsedAt u → AreSound count elsewhere (stands_for_in language modules (groupings_of modules) owner depth u)
  unfolding stands_for_in
  sound_stands owner few zero u used = tt
  sound_stands owner few (suc depth) u used =
      let meant = stands_for_in language modules (groupings_of modules) owner depth in
      let inner = replaced meant owner (row_used modules (groupings_of modules) u) in
      let after = refined_in language modules owner u.own inner in
      let whole = extended_by language meant modules owner (inner_augments language u.own) after in
      same_sound count elsewhere whole (conditioned language u.own whole) (same_conditioned language u.own whole)
      (sound_extended meant (sound_stands owner few depth) owner few used.0 (inner_augments language u.own) after
      (legal_inner meant (sound_stands owner few depth) owner few language used.0 (may_stand uses_word) u.own used.1)
      (same_sound count elsewhere inner after (same_refined language modules owner u.own inner)
      (sound_replaced count meant (sound_stands owner few depth) owner few elsewhere (row_used modules (groupings_of modules) u) (used_laid u))))

  sound_expanded : (home : ℕ) → home < count → (r : Row) (f : Forest Part) → AreLaid r f
      → AreSound count r (replaced (stands_for_in language modules (groupings_of modules) home (suc (size modules))) home f)
  sound_expanded home few r f are =
      sound_replaced count (stands_for_in language modules (groupings_of modules) home (suc (size modules))) (sound_stands home few (suc (size modules))) home few r f are

  sound_from : (plan : Plan) (home : ℕ) (f : Forest Source) → home + length (schema_modules plan f) ≡ count → AreModules home f
      → AreSound count elsewhere (expanded_in_from language modules (groupings_of modules) f)
  sound_from plan home end is legal = tt
  sound_from plan home (node s below after) is legal =
      let few : s.home < count = subst (λ (k : ℕ). k < count) (sym legal.1) (omega (arith, is)) in
      sound_joined count elsewhere _ (expanded_in_from language modules (groupings_of modules) after)
      (sound_expanded s.home few elsewhere (laid below) (laid_right home (may_stand module_word) below elsewhere legal.3 (row_legal home (may_stand module_word) below refl legal.3)))
      (sound_from plan (home + 1) after (omega (arith, is)) legal.4)

  -- ---- what augments add

  Adds : Augment → Type 0
  Adds a = AreSound count anywhere (added_nodes_in language modules a)
      × (is_some (first_with case_word a.given) ≡ false → AreSound count elsewhere (added_nodes_in language modules a))

  AllAdd : List Augment → Type 0
  AllAdd [] = Unit {0}
  AllAdd (a ∷ others) = Adds a × AllAdd others

  adds_joined : (xs ys : List Augment) → AllAdd xs → AllAdd ys → AllAdd (xs ++ ys)
  unfolding AllAdd
  adds_joined [] ys first second = second
  adds_joined (a ∷ xs) ys first second = (first.0, adds_joined xs ys first.1 second)

  adds_in : (home : ℕ) → home < count → (f : Forest Source) → IsLegal home (may_stand module_word) f → AllAdd (augments_in f)
  unfolding AllAdd Adds
  adds_in home few end legal = tt
  adds_in home few (node s below after) legal = by (is_source_of augment_word s) (adds_in home few after legal.2)
    where
      owner : s.home < count
      owner = subst (λ k. k < count) (sym legal.0.stands) few

      laid_in : (r : Row) → AreLaid r (laid below) → AreSound count r (added_nodes_in language modules (record { source = s; given = below }))
      laid_in r are =
          let those = replaced (stands_for_in language modules (groupings_of modules) s.home (suc (size modules))) s.home (laid below) in
          same_sound count r those (conditioned language below those) (same_conditioned language below those) (sound_expanded s.home owner r (laid below) are)

      by : (b : Bool) → AllAdd (augments_in after) → AllAdd (cond b (record { source = s; given = below } ∷ augments_in after) (augments_in after))
      by true rest = (
        (
          laid_in anywhere (laid_right home (may_stand s.keyword) below anywhere legal.1 (row_anywhere below)),
          λ none. laid_in elsewhere (laid_right home (may_stand s.keyword) below elsewhere legal.1 (row_none below none)),
        ),
        rest,
      )
      by false rest = rest

  adds_from : (plan : Plan) (home : ℕ) (f : Forest Source) → home + length (schema_modules plan f) ≡ count → AreModules home f → AllAdd (augments_of f)
  unfolding AllAdd
  adds_from plan home end is legal = tt
  adds_from plan home (node s below after) is legal =
      adds_joined (augments_in below) (augments_of after) (adds_in home (omega (arith, is)) below legal.3) (adds_from plan (home + 1) after (omega (arith, is)) legal.4)

-- ---- all augments, one after another

module _ (language : Language) (count : ℕ) (modules : Forest Source) (right : (number : ℕ) → AreLaid elsewhere (row_in (groupings_of modules) number)) where
  Found : (Augment → Bool) → Augment × List Augment → Type 0
  Found test found = (test found.0 ≡ true) × Adds language count modules right found.0 × AllAdd language count modules right found.1

  taken : (test : Augment → Bool) (waiting : List Augment) (found : Augment × List Augment) → first_that test waiting ≡ Some found → AllAdd language count modules right waiting → Found test found
  unfolding AllAdd Found
  taken test [] found e add = absurd cc
  taken test (a ∷ others) found e add = by (test a) refl (λ x is. taken test others x is add.1) e
    where
      later : ((x : Augment × List Augment) → first_that test others ≡ Some x → Found test x)
          → (o : Option (Augment × List Augment)) → first_that test others ≡ o → option_map (λ (x : Augment × List Augment). (x.0, a ∷ x.1)) o ≡ Some found → Found test found
      later deeper None is e = absurd cc
      later deeper (Some x) is e =
          let same : (x.0, a ∷ x.1) ≡ found = cc in
          let those = deeper x is in
          subst (Found test) same (those.0, those.1, (add.0, those.2))

      by : (b : Bool) → test a ≡ b → ((x : Augment × List Augment) → first_that test others ≡ Some x → Found test x)
          → cond b (Some (a, others)) (option_map (λ (x : Augment × List Augment). (x.0, a ∷ x.1)) (first_that test others)) ≡ Some found → Found test found
      by true is deeper e = let same : (a, others) ≡ found = cc in subst (Found test) same (is, add.0, add.1)
      by false is deeper e = later deeper (first_that test others) refl e

  sound_in_turn : (times : ℕ) (nodes : Forest Part) (waiting : List Augment) → AreSound count elsewhere nodes → AllAdd language count modules right waiting
      → AreSound count elsewhere (in_turn (is_ready_in language modules) (applied_in language modules) times nodes waiting).0
  unfolding in_turn Adds Found
  sound_in_turn zero nodes waiting are add = are
  sound_in_turn (suc times) nodes waiting are add = by (sound_in_turn times) (first_that (is_ready_in language modules nodes) waiting) refl
    where
      more : Forest Part → List Augment → Forest Part × List Augment
      more = in_turn (is_ready_in language modules) (applied_in language modules) times

      by : ((n : Forest Part) (w : List Augment) → AreSound count elsewhere n → AllAdd language count modules right w → AreSound count elsewhere (more n w).0)
          → (o : Option (Augment × List Augment)) → first_that (is_ready_in language modules nodes) waiting ≡ o
          → AreSound count elsewhere (done_first (applied_in language modules) more nodes waiting o).0
      by deeper None e = are
      by deeper (Some found) e =
          let those = taken (is_ready_in language modules nodes) waiting found e add in
          let a = found.0 in
          deeper (applied_in language modules a nodes) found.1
          (sound_at count (marked a.source.number) (same_marked a.source.number) a.given (added_nodes_in language modules a) those.1.0 those.1.1 (target_steps modules a) nodes elsewhere are
          (takes_of language modules a (part_at (target_steps modules a) nodes) those.0)) those.2

pub sound_augmented : (language : Language) (plan : Plan) (f : Forest Source) → AreModules 0 f → AreSound (length (schema_modules plan f)) elsewhere (augmented_in language f).0
sound_augmented language plan f legal =
    let count = length (schema_modules plan f) in
    let right = row_laid (statements_of f) (legal_statements 0 f legal) in
    sound_in_turn language count f right (length (augments_of f)) (expanded_parts_in language f) (augments_of f)
    (sound_from language count f right plan 0 f (omega arith) legal) (adds_from language count f right plan 0 f (omega arith) legal)

-- ---- those that stand

pub sound_standing : (holds : Part → Bool) (count : ℕ) (r : Row) (f : Forest Part) → AreSound count r f → AreSound count r (standing_by holds f)
unfolding standing_by
sound_standing holds count r end sound = tt
sound_standing holds count r (node p below after) sound =
    by (holds p) (is_implied_case p && is_all_cut below (standing_by holds below)) (is_default_off p below (standing_by holds below))
    (sound_standing holds count (row_below (is_choice_part p)) below sound.2) (sound_standing holds count r after sound.3)
  where
    inner : Forest Part
    inner = standing_by holds below

    others : Forest Part
    others = standing_by holds after

    by : (x y z : Bool) → AreSound count (row_below (is_choice_part p)) inner → AreSound count r others
        → AreSound count r (cond x (cond y others (node (cond z (record p { own = without_default p.own }) p) inner others)) others)
    by false y z first second = second
    by true true z first second = second
    by true false true first second = (
      sound.0,
      record { defines = sound.1.defines; name = sound.1.name; owner = sound.1.owner; bare = λ leaf. ap (standing_by holds) (sound.1.bare leaf) },
      first,
      second,
    )
    by true false false first second = (
      sound.0,
      record { defines = sound.1.defines; name = sound.1.name; owner = sound.1.owner; bare = λ leaf. ap (standing_by holds) (sound.1.bare leaf) },
      first,
      second,
    )

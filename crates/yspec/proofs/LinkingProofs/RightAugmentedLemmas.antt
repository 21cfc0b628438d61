-- What augments add is right where modules are legal, and so are the nodes to which they add it.
use Rattle.std.proofs.Common.{◌≡◌, ℕ, zero, suc, ◌+◌, ◌<◌, Bool, true, false, not, cond, ◌&&◌, List, [], ◌∷◌, ◌++◌, length, Option, Some, None, refl, sym, ap, ◌∙◌, subst, arith}
use Rattle.std.specs.Prelude.{find, is_some, option_map, option_and_then}
use Rattle.std.specs.Option.{option_map_or}
use Rattle.std.proofs.lemmas.Bool.{and_parts}
use Rattle.yspec.specs.Forest.{Forest, end, node, join, row, size, change_nth, below_nth}
use Rattle.yspec.specs.linking.Keyword.{Keyword, same_keyword, choice_word, case_word, module_word, augment_word}
use Rattle.yspec.specs.linking.Table.{rule_of}
use Rattle.yspec.specs.linking.Source.{Source, is_source_of, first_with}
use Rattle.yspec.specs.linking.Scopes.{statements_of}
use Rattle.yspec.specs.linking.Parts.{Part, case_for, as_cases, within}
use Rattle.yspec.specs.linking.Prefixes.{NodeName}
use Rattle.yspec.specs.linking.Planned.{Plan}
use Rattle.yspec.specs.linking.Compiling.{schema_modules}
use Rattle.yspec.specs.linking.Expansion.{laid, groupings_of, row_in, stands_for, expanded_parts, is_step, part_at, changed_at}
use Rattle.yspec.specs.linking.Augments.{Augment, augments_in, augments_of, target_steps, added_nodes, may_be_augmented, kept_out, may_take, is_ready, marked, added_below, applied, first_that, done_first, in_turn, augmented}
use Rattle.yspec.proofs.LinkingProofs.KeywordLemmas.{of_each}
use Rattle.yspec.proofs.LinkingProofs.LegalLemmas.{IsLegal, AreModules, AreAt}
use Rattle.yspec.proofs.LinkingProofs.RightPartLemmas.{is_leaf_word, AllCases, AreRight, all_cases, right_joined}
use Rattle.yspec.proofs.LinkingProofs.ExpansionLemmas.{SameNodes, same_itself}
use Rattle.yspec.proofs.LinkingProofs.RightExpandedLemmas.{AreLaid, legal_statements, laid_right, right_expanded, right_replaced, right_stands, row_laid, same_right}

-- ---- what comes below a target

right_cases : (count : ℕ) (f : Forest Part) → AreRight count f → AreRight count (as_cases f)
right_cases count end right = tt
right_cases count (node p below after) right = by (same_keyword case_word p.source.keyword) (right_cases count after right.2)
  where
    by : (b : Bool) → AreRight count (as_cases after)
        → AreRight count (cond b (node p below (as_cases after)) (node (case_for p) (node p below end) (as_cases after)))
    by true rest = (right.0, right.1, rest)
    by false rest = (
      record { defines = refl; name = right.0.name; owner = right.0.owner; bare = λ no. absurd cc; cases = λ no. absurd cc },
      (right.0, right.1, tt),
      rest,
    )

same_marked : (number : ℕ) (f : Forest Part) → SameNodes f (marked number f)
same_marked number end = tt
same_marked number (node p below after) = (refl, refl, same_itself below, same_marked number after)

cases_marked : (number : ℕ) (f : Forest Part) → AllCases f → AllCases (marked number f)
cases_marked number end all = tt
cases_marked number (node p below after) all = (all.0, cases_marked number after all.1)

cases_joined : (f g : Forest Part) → AllCases f → AllCases g → AllCases (join f g)
cases_joined end g first second = second
cases_joined (node p below after) g first second = (first.0, cases_joined after g first.1 second)

right_within : (count : ℕ) (b : Bool) (f : Forest Part) → AreRight count f → AreRight count (cond b (as_cases f) f)
right_within count true f right = right_cases count f right
right_within count false f right = right

cases_within : (b : Bool) (f : Forest Part) → b ≡ true → AllCases (cond b (as_cases f) f)
cases_within true f is = all_cases f
cases_within false f is = absurd cc

no_leaf : (k : Keyword) → may_be_augmented k ≡ true → is_leaf_word k ≡ false
no_leaf k may = by (is_leaf_word k) (may_be_augmented k) may (of_each (λ k. not (may_be_augmented k && is_leaf_word k)) refl k)
  where
    by : (l m : Bool) → m ≡ true → not (m && l) ≡ true → l ≡ false
    by false m is e = refl
    by true true is e = absurd cc
    by true false is e = absurd cc

module _ (count number : ℕ) (added : Forest Part) (fit : AreRight count added) where
  change : Part → Forest Part → Forest Part → Forest Part
  change = added_below number added

  here : (p : Part) (below after : Forest Part) → may_be_augmented p.source.keyword ≡ true → AreRight count (node p below after)
      → AreRight count (change p below after)
  unfolding change
  here p below after may right =
      let new = within p.source added in
      let marked_new : AreRight count (marked number new) =
      same_right count new (marked number new) (same_marked number new) (right_within count (is_source_of choice_word p.source) added fit) in (
        record {
          defines = right.0.defines;
          name = right.0.name;
          owner = right.0.owner;
          bare = λ leaf. absurd (let f : false ≡ true = sym (no_leaf p.source.keyword may) ∙ leaf in cc);
          cases = λ choice. cases_joined below (marked number new) (right.0.cases choice)
              (cases_marked number new (cases_within (is_source_of choice_word p.source) added choice));
        },
        right_joined count below (marked number new) right.1 marked_new,
        right.2,
      )

  -- a row keeps its nodes
  cases_nth : (test : Part → Bool) (inner : Part → Forest Part → Forest Part) (f : Forest Part) → AllCases f
      → AllCases (change_nth test 0 (λ p below after. node p (inner p below) after) f)
  cases_nth test inner end all = tt
  cases_nth test inner (node p below after) all = by (test p) (cases_nth test inner after all.1)
    where
      rest : Forest Part
      rest = change_nth test 0 (λ p below after. node p (inner p below) after) after

      by : (b : Bool) → AllCases rest → AllCases (cond b (node p (inner p below) after) (node p below rest))
      by true others = (all.0, all.1)
      by false others = (all.0, others)

  cases_at : (steps : List NodeName) (f : Forest Part) → AllCases f → AllCases (changed_at steps change f)
  unfolding change
  cases_at [] f all = all
  cases_at (step ∷ []) f all = cases_nth (is_step step) (λ p below. join below (marked number (within p.source added))) f all
  cases_at (step ∷ next ∷ steps) f all = cases_nth (is_step step) (λ p below. changed_at (next ∷ steps) change below) f all

  end_at : (steps : List NodeName) → changed_at steps change end ≡ end
  end_at [] = refl
  end_at (step ∷ []) = refl
  end_at (step ∷ next ∷ steps) = refl

  Takes : Forest Source → Option Part → Type 0
  Takes given found = option_map_or (λ p. may_take p given) found false ≡ true

  may : (given : Forest Source) (p : Part) → may_take p given ≡ true → may_be_augmented p.source.keyword ≡ true
  may given p e = (and_parts (may_be_augmented p.source.keyword) (not (is_some (first_with (kept_out p) given))) e).0

  right_last : (given : Forest Source) (test : Part → Bool) (f : Forest Part) → AreRight count f → Takes given (find test (row f))
      → AreRight count (change_nth test 0 change f)
  unfolding Takes
  right_last given test end right takes = absurd cc
  right_last given test (node p below after) right takes = by (test p) takes (right_last given test after right.2)
    where
      by : (b : Bool) → Takes given (cond b (Some p) (find test (row after))) → (Takes given (find test (row after)) → AreRight count (change_nth test 0 change after))
          → AreRight count (cond b (change p below after) (node p below (change_nth test 0 change after)))
      by true takes rest = here p below after (may given p takes) right
      by false takes rest = (right.0, right.1, rest takes)

  right_nth : (given : Forest Source) (test : Part → Bool) (next : NodeName) (steps : List NodeName) (f : Forest Part)
      → ((g : Forest Part) → AreRight count g → Takes given (part_at (next ∷ steps) g) → AreRight count (changed_at (next ∷ steps) change g))
      → AreRight count f → Takes given (option_and_then (part_at (next ∷ steps)) (below_nth test 0 f))
      → AreRight count (change_nth test 0 (λ p below after. node p (changed_at (next ∷ steps) change below) after) f)
  unfolding Takes
  right_nth given test next steps end deeper right takes = absurd cc
  right_nth given test next steps (node p below after) deeper right takes =
      by (test p) takes (right_nth given test next steps after deeper right.2)
    where
      rest : Forest Part
      rest = change_nth test 0 (λ p below after. node p (changed_at (next ∷ steps) change below) after) after

      by : (b : Bool) → Takes given (option_and_then (part_at (next ∷ steps)) (cond b (Some below) (below_nth test 0 after)))
          → (Takes given (option_and_then (part_at (next ∷ steps)) (below_nth test 0 after)) → AreRight count rest)
          → AreRight count (cond b (node p (changed_at (next ∷ steps) change below) after) (node p below rest))
      by true takes others = (
        record {
          defines = right.0.defines;
          name = right.0.name;
          owner = right.0.owner;
          bare = λ leaf. ap (changed_at (next ∷ steps) change) (right.0.bare leaf) ∙ end_at (next ∷ steps);
          cases = λ choice. cases_at (next ∷ steps) below (right.0.cases choice);
        },
        deeper below right.1 takes,
        right.2,
      )
      by false takes others = (right.0, right.1, others takes)

  pub right_at : (given : Forest Source) (steps : List NodeName) (f : Forest Part) → AreRight count f
      → option_map_or (λ p. may_take p given) (part_at steps f) false ≡ true
      → AreRight count (changed_at steps (added_below number added) f)
  unfolding change Takes
  right_at given [] f right takes = right
  right_at given (step ∷ []) f right takes = right_last given (is_step step) f right takes
  right_at given (step ∷ next ∷ steps) f right takes =
      right_nth given (is_step step) next steps f (right_at given (next ∷ steps)) right takes

-- ---- all augments, one after another

AddRight : ℕ → Forest Source → List Augment → Type 0
AddRight count modules [] = Unit {0}
AddRight count modules (a ∷ others) = AreRight count (added_nodes modules a) × AddRight count modules others

taken_right : (count : ℕ) (modules : Forest Source) (test : Augment → Bool) (waiting : List Augment) (found : Augment × List Augment)
    → first_that test waiting ≡ Some found → AddRight count modules waiting
    → (test found.0 ≡ true) × AreRight count (added_nodes modules found.0) × AddRight count modules found.1
unfolding AddRight
taken_right count modules test [] found e add = absurd cc
taken_right count modules test (a ∷ others) found e add =
    by (test a) refl (λ x is. taken_right count modules test others x is add.1) e
  where
    Right : Augment × List Augment → Type 0
    Right x = (test x.0 ≡ true) × AreRight count (added_nodes modules x.0) × AddRight count modules x.1

    later : ((x : Augment × List Augment) → first_that test others ≡ Some x → Right x)
        → (o : Option (Augment × List Augment)) → first_that test others ≡ o → option_map (λ (x : Augment × List Augment). (x.0, a ∷ x.1)) o ≡ Some found
        → (test found.0 ≡ true) × AreRight count (added_nodes modules found.0) × AddRight count modules found.1
    later deeper None is e = absurd cc
    later deeper (Some x) is e =
        let same : (x.0, a ∷ x.1) ≡ found = cc in
        let those = deeper x is in
        subst (λ (y : Augment × List Augment). (test y.0 ≡ true) × AreRight count (added_nodes modules y.0) × AddRight count modules y.1) same
        (those.0, those.1, (add.0, those.2))

    by : (b : Bool) → test a ≡ b → ((x : Augment × List Augment) → first_that test others ≡ Some x → Right x)
        → cond b (Some (a, others)) (option_map (λ (x : Augment × List Augment). (x.0, a ∷ x.1)) (first_that test others)) ≡ Some found
        → (test found.0 ≡ true) × AreRight count (added_nodes modules found.0) × AddRight count modules found.1
    by true is deeper e =
        let same : (a, others) ≡ found = cc in
        subst (λ (y : Augment × List Augment). (test y.0 ≡ true) × AreRight count (added_nodes modules y.0) × AddRight count modules y.1) same (is, add.0, add.1)
    by false is deeper e = later deeper (first_that test others) refl e

right_in_turn : (count : ℕ) (modules : Forest Source) (times : ℕ) (nodes : Forest Part) (waiting : List Augment) → AreRight count nodes → AddRight count modules waiting
    → AreRight count (in_turn (is_ready modules) (applied modules) times nodes waiting).0
unfolding in_turn
right_in_turn count modules zero nodes waiting right add = right
right_in_turn count modules (suc times) nodes waiting right add = by (right_in_turn count modules times) (first_that (is_ready modules nodes) waiting) refl
  where
    more : Forest Part → List Augment → Forest Part × List Augment
    more = in_turn (is_ready modules) (applied modules) times

    by : ((n : Forest Part) (w : List Augment) → AreRight count n → AddRight count modules w → AreRight count (more n w).0)
        → (o : Option (Augment × List Augment)) → first_that (is_ready modules nodes) waiting ≡ o
        → AreRight count (done_first (applied modules) more nodes waiting o).0
    by deeper None e = right
    by deeper (Some found) e =
        let taken = taken_right count modules (is_ready modules nodes) waiting found e add in
        let a = found.0 in
        deeper (applied modules a nodes) found.1
        (right_at count a.source.number (added_nodes modules a) taken.1 a.given (target_steps modules a) nodes right taken.0) taken.2

-- ---- those of legal modules

module _ (count : ℕ) (modules : Forest Source) (right : (number : ℕ) → AreLaid (row_in (groupings_of modules) number)) where
  add_joined : (xs ys : List Augment) → AddRight count modules xs → AddRight count modules ys → AddRight count modules (xs ++ ys)
  unfolding AddRight
  add_joined [] ys first second = second
  add_joined (a ∷ xs) ys first second = (first.0, add_joined xs ys first.1 second)

  add_in : (home : ℕ) → home < count → (f : Forest Source) → IsLegal home (rule_of module_word).substatements f → AddRight count modules (augments_in f)
  unfolding AddRight
  add_in home few end legal = tt
  add_in home few (node s below after) legal = by (is_source_of augment_word s) (add_in home few after legal.2)
    where
      owner : s.home < count
      owner = subst (λ k. k < count) (sym legal.0.stands) few

      by : (b : Bool) → AddRight count modules (augments_in after)
          → AddRight count modules (cond b (record { source = s; given = below } ∷ augments_in after) (augments_in after))
      by true rest = (
        right_replaced count (stands_for modules (groupings_of modules) s.home (suc (size modules)))
            (right_stands count modules (groupings_of modules) right s.home owner (suc (size modules))) s.home owner
            (laid below) (laid_right home (rule_of s.keyword).substatements below legal.1),
        rest,
      )
      by false rest = rest

  add_from : (plan : Plan) (home : ℕ) (f : Forest Source) → home + length (schema_modules plan f) ≡ count → AreModules home f → AddRight count modules (augments_of f)
  unfolding AddRight
  add_from plan home end is legal = tt
  add_from plan home (node s below after) is legal =
      add_joined (augments_in below) (augments_of after) (add_in home (omega (arith, is)) below legal.1)
      (add_from plan (home + 1) after (omega (arith, is)) legal.2)

pub right_augmented : (plan : Plan) (f : Forest Source) → AreModules 0 f → AreAt 0 f → AreRight (length (schema_modules plan f)) (augmented f).0
right_augmented plan f legal at =
    let count = length (schema_modules plan f) in
    right_in_turn count f (length (augments_of f)) (expanded_parts f) (augments_of f) (right_expanded plan f legal at)
    (add_from count f (row_laid (statements_of f) (legal_statements 0 f legal at)) plan 0 f (omega arith) legal)

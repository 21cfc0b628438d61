-- What is used in a row of statements, in a grouping, and in the augments of a `uses`.
use Rattle.std.proofs.Common.{◌≡◌, ℕ, suc, Bool, true, false, cond, ◌&&◌, List, [], ◌∷◌, ◌++◌, Option, Some, None, refl, sym, ap, ◌∙◌, arith, subst}
use Rattle.std.specs.Prelude.{⊤, option_map, find}
use Rattle.std.specs.List.{Contains}
use Rattle.std.specs.Option.{option_map_or}
use Rattle.std.proofs.lemmas.List.Elements.{Contains-append_left, Contains-append_right}
use Rattle.yspec.specs.Forest.{Forest, end, node, join}
use Rattle.yspec.specs.linking.Augments.{Augment, augments_in}
use Rattle.yspec.specs.linking.Expansion.{is_uses, laid, row_in, groupings_of}
use Rattle.yspec.specs.linking.Keyword.{Keyword, same_keyword, augment_word, uses_word, grouping_word, case_word, choice_word}
use Rattle.yspec.specs.linking.Parts.{Part, defines_node, part_of, as_cases, case_for, within}
use Rattle.yspec.specs.linking.Rewriting.{all_uses}
use Rattle.yspec.specs.linking.Scopes.{Placed, placed, statements_of, statement_at}
use Rattle.yspec.specs.linking.Source.{Source, is_source_of}
use Rattle.yspec.proofs.LinkingProofs.KeywordLemmas.{same_is}
use Rattle.yspec_wide.specs.Expansion.{inner_augments}
use Rattle.yspec_wide.specs.Language.{Language, core, rfc}
use Rattle.ybase_preorder.specs.Layout.{numbered_by}
use Rattle.ylink_grammar.specs.declared.source.Source as held
use Rattle.ylink_grammar.specs.SourceView.{source_view}
use Rattle.ylink_names.specs.ReferringView.{innermost_of}
use Rattle.ylink_names.specs.ScopeView.{placed_at}
use Rattle.ylink_names.proofs.PlacedLemmas.{among_them, below_them}
use Rattle.yschema_expand.specs.Walk.{all_inner}
use Rattle.yschema_expand.proofs.GroupingLemmas.{row_if, row_at}

-- what holds of what is inside, where there is something
abbrev pub OnSome : {A : Type 0} → Option A → (A → Type 0) → Type 0
OnSome None P = ⊤
OnSome (Some x) P = P x

-- ---- each `uses` of a row

abbrev pub UsesAre : (Part → Type 0) → Forest Part → Type 0
UsesAre P end = ⊤
UsesAre P (node p below after) = (is_uses p ≡ true → P p) × (is_uses p ≡ false → UsesAre P below) × UsesAre P after

pub are_weaker : (P Q : Part → Type 0) → ((u : Part) → P u → Q u) → (f : Forest Part) → UsesAre P f → UsesAre Q f
are_weaker P Q gives end are = tt
are_weaker P Q gives (node p below after) are =
    ((λ e. gives p (are.0 e)), (λ e. are_weaker P Q gives below (are.1 e)), are_weaker P Q gives after are.2)

pub are_all : (P : Part → Type 0) → ((u : Part) → P u) → (f : Forest Part) → UsesAre P f
are_all P all end = tt
are_all P all (node p below after) = ((λ e. all p), (λ e. are_all P all below), are_all P all after)

pub are_join : (P : Part → Type 0) (f g : Forest Part) → UsesAre P (join f g) → UsesAre P f × UsesAre P g
are_join P end g are = (tt, are)
are_join P (node p below after) g are = let rest = are_join P after g are.2 in ((are.0, are.1, rest.0), rest.1)

pub cases_are : (P : Part → Type 0) (f : Forest Part) → UsesAre P f → UsesAre P (as_cases f)
cases_are P end are = tt
cases_are P (node p below after) are = by (is_source_of case_word p.source) (cases_are P after are.2)
  where
    by : (b : Bool) → UsesAre P (as_cases after) → UsesAre P (cond b (node p below (as_cases after)) (node (case_for p) (node p below end) (as_cases after)))
    by true rest = (are.0, are.1, rest)
    by false rest = ((λ e. absurd cc), (λ e. (are.0, are.1, tt)), rest)

within_are : (P : Part → Type 0) (s : Source) (f : Forest Part) → UsesAre P f → UsesAre P (within s f)
within_are P s f are = by (is_source_of choice_word s)
  where
    by : (b : Bool) → UsesAre P (cond b (as_cases f) f)
    by true = cases_are P f are
    by false = are

-- as a test
pub tested : (test : Part → Bool) (f : Forest Part) → UsesAre (λ u. test u ≡ true) f → all_uses test f ≡ true
unfolding all_uses
tested test end are = refl
tested test (node p below after) are = by (is_uses p) refl (λ e. tested test below (are.1 e)) (tested test after are.2)
  where
    by : (b : Bool) → is_uses p ≡ b → (is_uses p ≡ false → all_uses test below ≡ true) → all_uses test after ≡ true → (cond b (test p) (all_uses test below) && all_uses test after) ≡ true
    by true is inner rest = ap (λ x. x && all_uses test after) (are.0 is) ∙ rest
    by false is inner rest = ap (λ x. x && all_uses test after) (inner is) ∙ rest

-- ---- what stands in a row of statements, but for further groupings in it

pub no_other : (j k : Keyword) → defines_node j ≡ false → defines_node k ≡ true → same_keyword j k ≡ false
no_other j k none stands = by (same_keyword j k) refl
  where
    by : (b : Bool) → same_keyword j k ≡ b → b ≡ false
    by false e = refl
    by true e = let same : j ≡ k = same_is j k e in let clash : false ≡ true = sym none ∙ (ap defines_node same ∙ stands) in absurd cc

later : (r : Placed) (ps : List Placed) (q : Placed) → Contains ps q → Contains (r ∷ ps) q
later r ps q at = let inside = at.1 in (suc at.0, omega (arith, inside), at.2)

-- of each `uses` of a row in the same grouping as that
abbrev pub AreUsed : (Part → Type 0) → List (Source × Forest Source) → Forest Source → Type 0
AreUsed P ancestors row = (p : Placed) → Contains (placed ancestors row) p → is_source_of uses_word p.source ≡ true
    → innermost_of grouping_word p.ancestors ≡ innermost_of grouping_word ancestors → P (part_of p.source p.below)

-- below a statement the innermost grouping is the statement itself, or else that around it
abbrev nearest : Bool → Source → Forest Source → List (Source × Forest Source) → Option ℕ
nearest b s below ancestors =
    option_map (λ (a : Source × Forest Source). a.0.number) (cond b (Some (s, below)) (find (λ (a : Source × Forest Source). is_source_of grouping_word a.0) ancestors))

pub around_it : (s : Source) (below : Forest Source) (ancestors : List (Source × Forest Source)) → is_source_of grouping_word s ≡ false
    → innermost_of grouping_word ((s, below) ∷ ancestors) ≡ innermost_of grouping_word ancestors
around_it s below ancestors other = ap (λ b. nearest b s below ancestors) other

pub in_it : (s : Source) (below : Forest Source) (ancestors : List (Source × Forest Source)) → is_source_of grouping_word s ≡ true
    → innermost_of grouping_word ((s, below) ∷ ancestors) ≡ Some s.number
in_it s below ancestors is = ap (λ b. nearest b s below ancestors) is

pub uses_no_grouping : (s : Source) → is_source_of uses_word s ≡ true → is_source_of grouping_word s ≡ false
uses_no_grouping s used = let word : uses_word ≡ s.keyword = same_is uses_word s.keyword used in sym (ap (same_keyword grouping_word) word)

pub augment_no_grouping : (s : Source) → is_source_of augment_word s ≡ true → is_source_of grouping_word s ≡ false
augment_no_grouping s is = let word : augment_word ≡ s.keyword = same_is augment_word s.keyword is in sym (ap (same_keyword grouping_word) word)

-- what an augment uses, each
abbrev pub InnerAre : (Part → Type 0) → List Augment → Type 0
InnerAre P [] = ⊤
InnerAre P (a ∷ others) = UsesAre P (laid a.given) × InnerAre P others

pub tested_inner : (test : Part → Bool) (xs : List Augment) → InnerAre (λ u. test u ≡ true) xs → all_inner test xs ≡ true
tested_inner test [] are = refl
tested_inner test (a ∷ xs) are = ap (λ b. b && all_inner test xs) (tested test (laid a.given) are.0) ∙ tested_inner test xs are.1

module _ (P : Part → Type 0) where
  pub laid_are : (ancestors : List (Source × Forest Source)) (row : Forest Source) → AreUsed P ancestors row → UsesAre P (laid row)
  unfolding placed laid
  laid_are ancestors end all = tt
  laid_are ancestors (node s below after) all = by (defines_node s.keyword) refl (is_source_of uses_word s) refl
      (λ other. laid_are ((s, below) ∷ ancestors) below
      (λ q at used around. all q (later p (under ++ behind) q (Contains-append_left under behind q at)) used (around ∙ around_it s below ancestors other)))
      (laid_are ancestors after (λ q at used around. all q (later p (under ++ behind) q (Contains-append_right under behind q at)) used around))
    where
      p : Placed
      p = placed_at s below ancestors

      under : List Placed
      under = placed ((s, below) ∷ ancestors) below

      behind : List Placed
      behind = placed ancestors after

      by : (n : Bool) → defines_node s.keyword ≡ n → (u : Bool) → is_source_of uses_word s ≡ u
          → (is_source_of grouping_word s ≡ false → UsesAre P (laid below)) → UsesAre P (laid after)
          → UsesAre P (cond n (node (part_of s below) (within s (laid below)) (laid after)) (cond u (node (part_of s below) end (laid after)) (laid after)))
      by true stands u used inner rest = (
        (λ e. let clash : true ≡ false = sym e ∙ no_other uses_word s.keyword refl stands in absurd cc),
        (λ e. within_are P s (laid below) (inner (no_other grouping_word s.keyword refl stands))),
        rest,
      )
      by false stands true used inner rest = (
        (λ e. all p (0, omega arith, refl) used refl),
        (λ e. let clash : true ≡ false = sym used ∙ e in absurd cc),
        rest,
      )
      by false stands false used inner rest = rest

  augments_are : (ancestors : List (Source × Forest Source)) (row : Forest Source) → AreUsed P ancestors row → InnerAre P (augments_in row)
  unfolding placed
  augments_are ancestors end all = tt
  augments_are ancestors (node s below after) all = by (is_source_of augment_word s) refl
      (augments_are ancestors after (λ q at used around. all q (later p (under ++ behind) q (Contains-append_right under behind q at)) used around))
    where
      p : Placed
      p = placed_at s below ancestors

      under : List Placed
      under = placed ((s, below) ∷ ancestors) below

      behind : List Placed
      behind = placed ancestors after

      by : (b : Bool) → is_source_of augment_word s ≡ b → InnerAre P (augments_in after)
          → InnerAre P (cond b (record { source = s; given = below } ∷ augments_in after) (augments_in after))
      by true is rest = (
        laid_are ((s, below) ∷ ancestors) below
            (λ q at used around. all q (later p (under ++ behind) q (Contains-append_left under behind q at)) used (around ∙ around_it s below ancestors (augment_no_grouping s is))),
        rest,
      )
      by false is rest = rest

  pub inner_are : (language : Language) (ancestors : List (Source × Forest Source)) (row : Forest Source) → AreUsed P ancestors row → InnerAre P (inner_augments language row)
  inner_are core ancestors row all = tt
  inner_are (rfc wide) ancestors row all = augments_are ancestors row all

-- ---- a set of modules

module _ (held_forest : Forest held.Source) where
  abbrev set : Forest Source
  set = numbered_by source_view 0 held_forest

  -- what is used in the grouping of a number
  pub grouping_are : (P : Part → Type 0) (e : ℕ)
      → ((p : Placed) → Contains (statements_of set) p → is_source_of uses_word p.source ≡ true → innermost_of grouping_word p.ancestors ≡ Some e → P (part_of p.source p.below))
      → UsesAre P (row_in (groupings_of set) e)
  grouping_are P e all = subst (UsesAre P) (sym (row_at held_forest e)) (by (statement_at set e) refl)
    where
      by : (o : Option Placed) → statement_at set e ≡ o → UsesAre P (option_map_or row_if o end)
      by None found = tt
      by (Some p) found = is (is_source_of grouping_word p.source) refl
        where
          at : Contains (statements_of set) p × (p.source.number ≡ e)
          at = among_them held_forest e p found

          is : (b : Bool) → is_source_of grouping_word p.source ≡ b → UsesAre P (cond b (laid p.below) end)
          is false other = tt
          is true grouping = laid_are P ((p.source, p.below) ∷ p.ancestors) p.below (λ q inside used around.
              all q (below_them [] set p q at.0 inside) used (around ∙ (in_it p.source p.below p.ancestors grouping ∙ ap (λ n. Some n) at.1)))

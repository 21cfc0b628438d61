-- Sound parts: each is named by an identifier, a leaf has nothing below it, a choice has cases alone, and no case stands elsewhere. So
-- are those that are laid for legal statements, with what their `uses` stand for.
use Rattle.std.proofs.Common.{◌≡◌, ℕ, ◌<◌, Bool, true, false, cond, not, ◌||◌, List, Some, refl, sym, ap, ◌∙◌, subst}
use Rattle.std.specs.Prelude.{is_some}
use Rattle.yspec.specs.Forest.{Forest, end, node, join}
use Rattle.yspec.specs.text.Text.{is_identifier}
use Rattle.yspec.specs.linking.Keyword.{Keyword, same_keyword, leaf_word, leaf_list_word, choice_word, case_word, uses_word}
use Rattle.yspec.specs.linking.Table as narrow
use Rattle.yspec.specs.linking.Source.{Source, is_source_of, first_with, argument_in}
use Rattle.yspec.specs.linking.Parts.{Part, defines_node, own_of, part_of, case_for, as_cases, within}
use Rattle.yspec.specs.linking.Expansion.{laid, is_uses, owned_by, replaced}
use Rattle.yspec.proofs.LinkingProofs.KeywordLemmas.{of_each, same_is, by_definition}
use Rattle.yspec.proofs.LinkingProofs.ExpansionLemmas.{SameNodes}
use Rattle.yspec_wide_fit.proofs.LegalLemmas.{may_stand, IsLegal, has_none, none_is}

abbrev pub is_leaf_word : Keyword → Bool
is_leaf_word k = same_keyword leaf_word k || (same_keyword leaf_list_word k || false)

abbrev pub is_choice_part : Part → Bool
is_choice_part p = is_source_of choice_word p.source

abbrev pub is_case_part : Part → Bool
is_case_part p = is_source_of case_word p.source

-- ---- rows

-- cases alone stand below a choice, and no case elsewhere; what an augment adds may come to either
pub data Row : Type 0 where
  of_choice : Row
  elsewhere : Row
  anywhere : Row

-- whether what is a case, or isn't, may stand in a row
abbrev pub stands_in : Row → Bool → Bool
stands_in of_choice is_case = is_case
stands_in elsewhere is_case = not is_case
stands_in anywhere is_case = true

abbrev pub row_below : Bool → Row
row_below is_choice = cond is_choice of_choice elsewhere

pub record IsSoundAt (count : ℕ) (p : Part) (below : Forest Part) : Type 0 where
  pub defines : defines_node p.source.keyword ≡ true
  pub name : is_identifier (argument_in p.source) ≡ true
  pub owner : p.owner < count
  pub bare : is_leaf_word p.source.keyword ≡ true → below ≡ end

-- parts of some of so many modules
abbrev pub AreSound : ℕ → Row → Forest Part → Type 0
AreSound count r end = Unit {0}
AreSound count r (node p below after) = (stands_in r (is_case_part p) ≡ true) × IsSoundAt count p below
    × AreSound count (row_below (is_choice_part p)) below × AreSound count r after

pub sound_joined : (count : ℕ) (r : Row) (f g : Forest Part) → AreSound count r f → AreSound count r g → AreSound count r (join f g)
sound_joined count r end g first second = second
sound_joined count r (node p below after) g first second = (first.0, first.1, first.2, sound_joined count r after g first.3 second)

pub sound_anywhere : (count : ℕ) (r : Row) (f : Forest Part) → AreSound count r f → AreSound count anywhere f
sound_anywhere count r end sound = tt
sound_anywhere count r (node p below after) sound = (refl, sound.1, sound.2, sound_anywhere count r after sound.3)

-- what has no case may stand wherever such may
pub sound_in : (count : ℕ) (r : Row) (f : Forest Part) → stands_in r false ≡ true → AreSound count elsewhere f → AreSound count r f
sound_in count of_choice f may sound = absurd cc
sound_in count elsewhere f may sound = sound
sound_in count anywhere f may sound = sound_anywhere count elsewhere f sound

turned : (b : Bool) → not b ≡ true → b ≡ false
turned true e = absurd cc
turned false e = refl

opposite : (b : Bool) → b ≡ false → not b ≡ true
opposite true e = absurd cc
opposite false e = refl

pub sound_cases : (count : ℕ) (f : Forest Part) → AreSound count anywhere f → AreSound count of_choice (as_cases f)
sound_cases count end sound = tt
sound_cases count (node p below after) sound = by (is_case_part p) refl (sound_cases count after sound.3)
  where
    by : (b : Bool) → is_case_part p ≡ b → AreSound count of_choice (as_cases after)
        → AreSound count of_choice (cond b (node p below (as_cases after)) (node (case_for p) (node p below end) (as_cases after)))
    by true is rest = (is, sound.1, sound.2, rest)
    by false is rest = (
      refl,
      record { defines = refl; name = sound.1.name; owner = sound.1.owner; bare = λ no. absurd cc },
      (opposite (is_case_part p) is, sound.1, sound.2, tt),
      rest,
    )

same_end : (f : Forest Part) → SameNodes end f → f ≡ end
same_end end same = refl
same_end (node q c d) same = absurd same

-- what nodes state is nothing to it
pub same_sound : (count : ℕ) (r : Row) (f g : Forest Part) → SameNodes f g → AreSound count r f → AreSound count r g
same_sound count r end end same sound = tt
same_sound count r end (node q c d) same sound = absurd same
same_sound count r (node p b a) end same sound = absurd same
same_sound count r (node p b a) (node q c d) same sound = (
  ap (λ (s : Source). stands_in r (is_source_of case_word s)) (sym same.0) ∙ sound.0,
  record {
    defines = ap (λ (s : Source). defines_node s.keyword) (sym same.0) ∙ sound.1.defines;
    name = ap (λ (s : Source). is_identifier (argument_in s)) (sym same.0) ∙ sound.1.name;
    owner = subst (λ (k : ℕ). k < count) same.1 sound.1.owner;
    bare = λ leaf. same_end c (subst (λ (f : Forest Part). SameNodes f c) (sound.1.bare (ap (λ (s : Source). is_leaf_word s.keyword) same.0 ∙ leaf)) same.2);
  },
  subst (λ (x : Bool). AreSound count (row_below x) c) (ap (is_source_of choice_word) same.0)
      (same_sound count (row_below (is_choice_part p)) b c same.2 sound.2),
  same_sound count r a d same.3 sound.3,
)

-- ---- rows of statements

abbrev pub RowStands : Row → Forest Source → Type 0
RowStands r end = Unit {0}
RowStands r (node s below after) = (stands_in r (is_source_of case_word s) ≡ true) × RowStands r after

pub row_anywhere : (f : Forest Source) → RowStands anywhere f
row_anywhere end = tt
row_anywhere (node s below after) = (refl, row_anywhere after)

pub row_legal : (home : ℕ) (allowed : List narrow.Allowed) (f : Forest Source) → has_none (same_keyword case_word) allowed ≡ true → IsLegal home allowed f → RowStands elsewhere f
row_legal home allowed end none legal = tt
row_legal home allowed (node s below after) none legal =
    (opposite _ (none_is home allowed s (same_keyword case_word) refl none legal.0), row_legal home allowed after none legal.2)

pub row_none : (f : Forest Source) → is_some (first_with case_word f) ≡ false → RowStands elsewhere f
row_none end none = tt
row_none (node s below after) none = by (is_source_of case_word s) none (row_none after)
  where
    by : (b : Bool) → is_some (cond b (Some s) (first_with case_word after)) ≡ false
        → (is_some (first_with case_word after) ≡ false → RowStands elsewhere after) → (not b ≡ true) × RowStands elsewhere after
    by true none rest = absurd cc
    by false none rest = (refl, rest none)

-- ---- what the table lets stand below leafs and choices, and cases

either : (a b : Bool) → a ≡ true → (not a || b) ≡ true → b ≡ true
either true b is e = e
either false b is e = absurd cc

-- a keyword that nodes are laid for
abbrev is_laid_word : Keyword → Bool
is_laid_word k = defines_node k || same_keyword uses_word k

below_leafs : (k : Keyword) → is_leaf_word k ≡ true → has_none is_laid_word (may_stand k) ≡ true
below_leafs k leaf = either (is_leaf_word k) _ leaf (of_each (λ k. not (is_leaf_word k) || has_none is_laid_word (may_stand k)) refl k)

below_choices : (k : Keyword) → same_keyword choice_word k ≡ true → has_none (same_keyword uses_word) (may_stand k) ≡ true
below_choices k choice = either (same_keyword choice_word k) _ choice
    (of_each (λ k. not (same_keyword choice_word k) || has_none (same_keyword uses_word) (may_stand k)) refl k)

-- of statements that define nodes only a choice may have a case below it
below_others : (k : Keyword) → defines_node k ≡ true → same_keyword choice_word k ≡ false → has_none (same_keyword case_word) (may_stand k) ≡ true
below_others k defines other = either (defines_node k) _ defines
    (or_first (same_keyword choice_word k) _ other (of_each (λ k. same_keyword choice_word k || (not (defines_node k) || has_none (same_keyword case_word) (may_stand k))) refl k))
  where
    or_first : (a b : Bool) → a ≡ false → (a || b) ≡ true → b ≡ true
    or_first true b none e = absurd cc
    or_first false b none e = e

-- ---- laid rows

pub record IsLaidAt (p : Part) (below : Forest Part) : Type 0 where
  pub defines : defines_node p.source.keyword ≡ true
  pub name : is_identifier (argument_in p.source) ≡ true
  pub bare : is_leaf_word p.source.keyword ≡ true → below ≡ end

-- what a `uses` states is legal
abbrev pub IsUsedAt : Part → Type 0
IsUsedAt p = (home : ℕ) × IsLegal home (may_stand uses_word) p.own

-- the same of all but the `uses` among them
abbrev pub AreLaid : Row → Forest Part → Type 0
AreLaid r end = Unit {0}
AreLaid r (node p below after) = (stands_in r (is_case_part p) ≡ true) × ((is_uses p ≡ false → IsLaidAt p below) × (is_uses p ≡ true → IsUsedAt p))
    × AreLaid (row_below (is_choice_part p)) below × AreLaid r after

legal_own : (home : ℕ) (allowed : List narrow.Allowed) (f : Forest Source) → IsLegal home allowed f → IsLegal home allowed (own_of f)
legal_own home allowed end legal = tt
legal_own home allowed (node s below after) legal = by (defines_node s.keyword) (legal_own home allowed after legal.2)
  where
    by : (b : Bool) → IsLegal home allowed (own_of after) → IsLegal home allowed (cond b (own_of after) (node s below (own_of after)))
    by true rest = rest
    by false rest = (legal.0, legal.1, rest)

abbrev NoneUsed : Forest Part → Type 0
NoneUsed end = Unit {0}
NoneUsed (node p below after) = (is_uses p ≡ false) × NoneUsed after

nothing_laid : (home : ℕ) (allowed : List narrow.Allowed) (f : Forest Source) → has_none is_laid_word allowed ≡ true → IsLegal home allowed f → laid f ≡ end
unfolding laid
nothing_laid home allowed end none legal = refl
nothing_laid home allowed (node s below after) none legal =
    by (defines_node s.keyword) (same_keyword uses_word s.keyword) (none_is home allowed s is_laid_word refl none legal.0) (nothing_laid home allowed after none legal.2)
  where
    by : (b c : Bool) → (b || c) ≡ false → laid after ≡ end
        → cond b (node (part_of s below) (within s (laid below)) (laid after)) (cond c (node (part_of s below) end (laid after)) (laid after)) ≡ end
    by true c none rest = absurd cc
    by false true none rest = absurd cc
    by false false none rest = rest

node_is_no_use : (k : Keyword) → defines_node k ≡ true → same_keyword uses_word k ≡ false
node_is_no_use k defines = by_definition k (λ k. same_keyword uses_word k ≡ false) refl refl refl refl refl refl defines

none_used : (home : ℕ) (allowed : List narrow.Allowed) (f : Forest Source) → has_none (same_keyword uses_word) allowed ≡ true → IsLegal home allowed f → NoneUsed (laid f)
unfolding laid
none_used home allowed end none legal = tt
none_used home allowed (node s below after) none legal =
    by (defines_node s.keyword) refl (same_keyword uses_word s.keyword) refl (none_used home allowed after none legal.2)
  where
    by : (b : Bool) → defines_node s.keyword ≡ b → (c : Bool) → same_keyword uses_word s.keyword ≡ c → NoneUsed (laid after)
        → NoneUsed (cond b (node (part_of s below) (within s (laid below)) (laid after)) (cond c (node (part_of s below) end (laid after)) (laid after)))
    by true is c uses rest = (node_is_no_use s.keyword is, rest)
    by false is true uses rest = absurd (let no : true ≡ false = sym uses ∙ none_is home allowed s (same_keyword uses_word) refl none legal.0 in cc)
    by false is false uses rest = rest

laid_cases : (f : Forest Part) → NoneUsed f → AreLaid anywhere f → AreLaid of_choice (as_cases f)
laid_cases end none are = tt
laid_cases (node p below after) none are = by (is_case_part p) refl (laid_cases after none.1 are.3)
  where
    by : (b : Bool) → is_case_part p ≡ b → AreLaid of_choice (as_cases after)
        → AreLaid of_choice (cond b (node p below (as_cases after)) (node (case_for p) (node p below end) (as_cases after)))
    by true is rest = (is, are.1, are.2, rest)
    by false is rest = (
      refl,
      (λ no. record { defines = refl; name = (are.1.0 none.0).name; bare = λ no. absurd cc }, λ no. absurd cc),
      (opposite (is_case_part p) is, are.1, are.2, tt),
      rest,
    )

pub laid_right : (home : ℕ) (allowed : List narrow.Allowed) (f : Forest Source) (r : Row) → IsLegal home allowed f → RowStands r f → AreLaid r (laid f)
unfolding laid
laid_right home allowed end r legal stands = tt
laid_right home allowed (node s below after) r legal stands = by (defines_node s.keyword) refl (same_keyword uses_word s.keyword) refl
    (λ q those. laid_right home (may_stand s.keyword) below q legal.1 those)
    (laid_right home allowed after r legal.2 stands.1)
  where
    Deeper : Type 0
    Deeper = (q : Row) → RowStands q below → AreLaid q (laid below)

    bare : (c : Bool) → is_leaf_word s.keyword ≡ true → cond c (as_cases (laid below)) (laid below) ≡ end
    bare true leaf = ap as_cases (nothing_laid home (may_stand s.keyword) below (below_leafs s.keyword leaf) legal.1)
    bare false leaf = nothing_laid home (may_stand s.keyword) below (below_leafs s.keyword leaf) legal.1

    inside : defines_node s.keyword ≡ true → Deeper → (c : Bool) → same_keyword choice_word s.keyword ≡ c
        → AreLaid (row_below c) (cond c (as_cases (laid below)) (laid below))
    inside defines deeper true is =
        laid_cases (laid below) (none_used home (may_stand s.keyword) below (below_choices s.keyword is) legal.1) (deeper anywhere (row_anywhere below))
    inside defines deeper false is = deeper elsewhere (row_legal home (may_stand s.keyword) below (below_others s.keyword defines is) legal.1)

    by : (b : Bool) → defines_node s.keyword ≡ b → (c : Bool) → same_keyword uses_word s.keyword ≡ c → Deeper → AreLaid r (laid after)
        → AreLaid r (cond b (node (part_of s below) (within s (laid below)) (laid after)) (cond c (node (part_of s below) end (laid after)) (laid after)))
    by true defines c uses deeper rest = (
      stands.0,
      (
        λ is. record { defines = defines; name = legal.0.named defines; bare = bare (same_keyword choice_word s.keyword) },
        λ is. absurd (let no : false ≡ true = sym (node_is_no_use s.keyword defines) ∙ is in cc),
      ),
      inside defines deeper (same_keyword choice_word s.keyword) refl,
      rest,
    )
    by false defines true uses deeper rest = (
      stands.0,
      (
        λ is. absurd (let no : true ≡ false = sym uses ∙ is in cc),
        λ is. (home, legal_own home (may_stand uses_word) below (subst (λ k. IsLegal home (may_stand k) below) (sym (same_is uses_word s.keyword uses)) legal.1)),
      ),
      tt,
      rest,
    )
    by false defines false uses deeper rest = rest

-- ---- what they are replaced by

use_is_no_case : (k : Keyword) → same_keyword uses_word k ≡ true → same_keyword case_word k ≡ false
use_is_no_case k is = ap (same_keyword case_word) (sym (same_is uses_word k is))

pub sound_replaced : (count : ℕ) (meant : Part → Forest Part) → ((u : Part) → IsUsedAt u → AreSound count elsewhere (meant u)) → (owner : ℕ) → owner < count
    → (r : Row) (f : Forest Part) → AreLaid r f → AreSound count r (replaced meant owner f)
unfolding replaced
sound_replaced count meant sound owner few r end are = tt
sound_replaced count meant sound owner few r (node p below after) are = by (is_uses p) refl
    (sound_replaced count meant sound owner few (row_below (is_choice_part p)) below are.2)
    (sound_replaced count meant sound owner few r after are.3)
  where
    by : (b : Bool) → is_uses p ≡ b → AreSound count (row_below (is_choice_part p)) (replaced meant owner below) → AreSound count r (replaced meant owner after)
        → AreSound count r (cond b (join (meant p) (replaced meant owner after)) (node (owned_by owner p) (replaced meant owner below) (replaced meant owner after)))
    by true is inner rest = sound_joined count r (meant p) (replaced meant owner after)
        (sound_in count r (meant p) (ap (stands_in r) (sym (use_is_no_case p.source.keyword is)) ∙ are.0) (sound p (are.1.1 is))) rest
    by false is inner rest = let here = are.1.0 is in (
      are.0,
      record { defines = here.defines; name = here.name; owner = few; bare = λ leaf. ap (replaced meant owner) (here.bare leaf) },
      inner,
      rest,
    )

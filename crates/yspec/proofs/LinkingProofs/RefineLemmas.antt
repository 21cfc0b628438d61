-- What a node states after a refine: of each keyword what the refine gives, or where it gives none what the node stated.
use Rattle.std.proofs.Common.{◌≡◌, Bool, true, false, cond, ◌||◌, [], ◌∷◌, Option, Some, None, refl, sym, ap, ◌∙◌}
use Rattle.std.specs.List.{list_any}
use Rattle.yspec.specs.Forest.{Forest, end, node, row, join, first_of}
use Rattle.yspec.specs.linking.Keyword.{Keyword}
use Rattle.yspec.specs.linking.Source.{Source, is_source_of, found_with, all_with}
use Rattle.yspec.specs.linking.Expansion.{others}
use Rattle.yspec.proofs.LinkingProofs.KeywordLemmas.{same_is}

abbrev Found : Type 0
Found = Option (Source × Forest Source)

abbrev has : Keyword → Forest Source → Bool
has k given = list_any (is_source_of k) (row given)

-- a statement of a keyword is taken away where the refine gives that keyword
taken : (k : Keyword) (s : Source) (given : Forest Source) → is_source_of k s ≡ true → has s.keyword given ≡ has k given
taken k s given is = ap (λ (j : Keyword). has j given) (sym (same_is k s.keyword is))

none_found : (k : Keyword) (given : Forest Source) → has k given ≡ false → found_with k given ≡ None
none_found k end none = refl
none_found k (node s below after) none = by (is_source_of k s) none (none_found k after)
  where
    by : (b : Bool) → (b || has k after) ≡ false → (has k after ≡ false → found_with k after ≡ None) → cond b (Some (s, below)) (found_with k after) ≡ None
    by true none rest = absurd cc
    by false none rest = rest none

none_of_all : (k : Keyword) (given : Forest Source) → has k given ≡ false → all_with k given ≡ []
none_of_all k end none = refl
none_of_all k (node s below after) none = by (is_source_of k s) none (none_of_all k after)
  where
    by : (b : Bool) → (b || has k after) ≡ false → (has k after ≡ false → all_with k after ≡ []) → cond b (s ∷ all_with k after) (all_with k after) ≡ []
    by true none rest = absurd cc
    by false none rest = rest none

-- ---- where the refine gives none

kept_found : (k : Keyword) (given own : Forest Source) → has k given ≡ false → found_with k (join (others given own) given) ≡ found_with k own
kept_found k given end none = none_found k given none
kept_found k given (node s below after) none = by (has s.keyword given) refl (is_source_of k s) refl (kept_found k given after none)
  where
    by : (t : Bool) → has s.keyword given ≡ t → (b : Bool) → is_source_of k s ≡ b → found_with k (join (others given after) given) ≡ found_with k after
        → found_with k (join (cond t (others given after) (node s below (others given after))) given) ≡ cond b (Some (s, below)) (found_with k after)
    by true away true is rest = absurd (let e : true ≡ false = sym away ∙ (taken k s given is ∙ none) in cc)
    by true away false is rest = rest
    by false kept true is rest = ap (λ x. cond x (Some (s, below)) (found_with k (join (others given after) given))) is
    by false kept false is rest = ap (λ x. cond x (Some (s, below)) (found_with k (join (others given after) given))) is ∙ rest

kept_all : (k : Keyword) (given own : Forest Source) → has k given ≡ false → all_with k (join (others given own) given) ≡ all_with k own
kept_all k given end none = none_of_all k given none
kept_all k given (node s below after) none = by (has s.keyword given) refl (is_source_of k s) refl (kept_all k given after none)
  where
    by : (t : Bool) → has s.keyword given ≡ t → (b : Bool) → is_source_of k s ≡ b → all_with k (join (others given after) given) ≡ all_with k after
        → all_with k (join (cond t (others given after) (node s below (others given after))) given) ≡ cond b (s ∷ all_with k after) (all_with k after)
    by true away true is rest = absurd (let e : true ≡ false = sym away ∙ (taken k s given is ∙ none) in cc)
    by true away false is rest = rest
    by false kept true is rest = ap (λ x. cond x (s ∷ all_with k (join (others given after) given)) (all_with k (join (others given after) given))) is ∙ ap (λ l. s ∷ l) rest
    by false kept false is rest = ap (λ x. cond x (s ∷ all_with k (join (others given after) given)) (all_with k (join (others given after) given))) is ∙ rest

-- ---- where it gives some

given_found : (k : Keyword) (given own : Forest Source) → has k given ≡ true → found_with k (join (others given own) given) ≡ found_with k given
given_found k given end some = refl
given_found k given (node s below after) some = by (has s.keyword given) refl (is_source_of k s) refl (given_found k given after some)
  where
    by : (t : Bool) → has s.keyword given ≡ t → (b : Bool) → is_source_of k s ≡ b → found_with k (join (others given after) given) ≡ found_with k given
        → found_with k (join (cond t (others given after) (node s below (others given after))) given) ≡ found_with k given
    by true away b is rest = rest
    by false kept true is rest = absurd (let e : false ≡ true = sym kept ∙ (taken k s given is ∙ some) in cc)
    by false kept false is rest = ap (λ x. cond x (Some (s, below)) (found_with k (join (others given after) given))) is ∙ rest

given_all : (k : Keyword) (given own : Forest Source) → has k given ≡ true → all_with k (join (others given own) given) ≡ all_with k given
given_all k given end some = refl
given_all k given (node s below after) some = by (has s.keyword given) refl (is_source_of k s) refl (given_all k given after some)
  where
    by : (t : Bool) → has s.keyword given ≡ t → (b : Bool) → is_source_of k s ≡ b → all_with k (join (others given after) given) ≡ all_with k given
        → all_with k (join (cond t (others given after) (node s below (others given after))) given) ≡ all_with k given
    by true away b is rest = rest
    by false kept true is rest = absurd (let e : false ≡ true = sym kept ∙ (taken k s given is ∙ some) in cc)
    by false kept false is rest = ap (λ x. cond x (s ∷ all_with k (join (others given after) given)) (all_with k (join (others given after) given))) is ∙ rest

some_found : (k : Keyword) (given : Forest Source) → has k given ≡ true → (other : Found) → first_of (found_with k given) other ≡ found_with k given
some_found k end some other = absurd cc
some_found k (node s below after) some other = by (is_source_of k s) some (λ h. some_found k after h other)
  where
    by : (b : Bool) → (b || has k after) ≡ true → (has k after ≡ true → first_of (found_with k after) other ≡ found_with k after)
        → first_of (cond b (Some (s, below)) (found_with k after)) other ≡ cond b (Some (s, below)) (found_with k after)
    by true some rest = refl
    by false some rest = rest some

-- ---- both

pub first_stated : (k : Keyword) (given own : Forest Source) → found_with k (join (others given own) given) ≡ first_of (found_with k given) (found_with k own)
first_stated k given own = by (has k given) refl
  where
    by : (b : Bool) → has k given ≡ b → found_with k (join (others given own) given) ≡ first_of (found_with k given) (found_with k own)
    by true some = given_found k given own some ∙ sym (some_found k given some (found_with k own))
    by false none = kept_found k given own none ∙ ap (λ (x : Found). first_of x (found_with k own)) (sym (none_found k given none))

pub all_stated : (k : Keyword) (given own : Forest Source) → all_with k (join (others given own) given) ≡ cond (has k given) (all_with k given) (all_with k own)
all_stated k given own = by (has k given) refl
  where
    by : (b : Bool) → has k given ≡ b → all_with k (join (others given own) given) ≡ cond b (all_with k given) (all_with k own)
    by true some = given_all k given own some
    by false none = kept_all k given own none

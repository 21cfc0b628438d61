-- What a node states with one keyword stands in one row.
use Rattle.std.proofs.Common.{◌≡◌, ℕ, zero, suc, ◌+◌, ◌<◌, Bool, true, false, cond, ◌||◌, List, [], ◌∷◌, length, drop, get_or, Option, Some, None, refl, sym, ap, ◌∙◌, arith, subst}
use Rattle.std.specs.List.{list_any}
use Rattle.yspec.specs.Forest.{Forest, end, node, row, join, first_of}
use Rattle.yspec.specs.linking.Keyword.{Keyword, same_keyword, extension_word, default_word}
use Rattle.yspec.specs.linking.Parts.{defines_node, own_of}
use Rattle.yspec.specs.linking.Expansion.{others}
use Rattle.yspec.specs.linking.Source.{Source, all_with, argument_in, argument_with, found_with, is_source_of}
use Rattle.ylink_grammar.proofs.SourceLemmas.{first_found}
use Rattle.std.specs.Prelude.{option_map}
use Rattle.yspec.proofs.LinkingProofs.KeywordLemmas.{same_is}
use Rattle.yspec.proofs.LinkingProofs.RefineLemmas.{first_stated, all_stated}
use Rattle.yspec_wide.specs.Language.{Language}
use Rattle.yspec_wide.specs.Sources.{is_guard, guard_row, without_guards}
use Rattle.yspec_wide.specs.Standing.{without_default}
use Rattle.yschema_given.specs.Keeping.{is_kept, is_kept_right, are_kept_right}
use Rattle.yschema_given.specs.GivenView.{language_of, row_of, stated_after, stated_with, stated_with_row}
use Rattle.yschema_given.specs.declared.given.Given.{Given}
use Rattle.yschema_given.specs.declared.given.Given.TheVariants.{Row, NoDefault}
use Rattle.yschema_given.specs.declared.given_row.GivenRow.{GivenRow}
use Rattle.yschema_given.proofs.KeepingLemmas.{as_kept, kept_parts}
use Rattle.yschema_given.specs.Stating.{SameFor}

module _ (k : Keyword) where
  abbrev has : Forest Source → Bool
  has f = list_any (is_source_of k) (row f)

  pub same_both : (f g h : Forest Source) → SameFor k f g → SameFor k g h → SameFor k f h
  same_both f g h first second = (first.0 ∙ second.0, first.1 ∙ second.1)

  -- what defines nodes is left out of what a node states
  pub own_same : defines_node k ≡ false → (f : Forest Source) → SameFor k (own_of f) f
  own_same other end = (refl, refl)
  own_same other (node s below after) = by (defines_node s.keyword) refl (is_source_of k s) refl (own_same other after)
    where
      by : (d : Bool) → defines_node s.keyword ≡ d → (b : Bool) → is_source_of k s ≡ b → SameFor k (own_of after) after
          → SameFor k (cond d (own_of after) (node s below (own_of after))) (node s below after)
      by true d true b rest = absurd (let same : k ≡ s.keyword = same_is k s.keyword b in let clash : false ≡ true = sym other ∙ (ap defines_node same ∙ d) in cc)
      by true d false b rest = (
        rest.0 ∙ sym (ap (λ x. cond x (Some (s, below)) (found_with k after)) b),
        rest.1 ∙ sym (ap (λ x. cond x (s ∷ all_with k after) (all_with k after)) b),
      )
      by false d b is rest = (
        ap (λ x. cond (is_source_of k s) (Some (s, below)) x) rest.0,
        ap (λ x. cond (is_source_of k s) (s ∷ x) x) rest.1,
      )

  -- ---- one refine

  found_some : (given : Forest Source) → has given ≡ true → (x : Option (Source × Forest Source)) → first_of (found_with k given) x ≡ found_with k given
  found_some end some x = absurd cc
  found_some (node s below after) some x = by (is_source_of k s) some (λ h. found_some after h x)
    where
      by : (b : Bool) → (b || has after) ≡ true → (has after ≡ true → first_of (found_with k after) x ≡ found_with k after)
          → first_of (cond b (Some (s, below)) (found_with k after)) x ≡ cond b (Some (s, below)) (found_with k after)
      by true some rest = refl
      by false some rest = rest some

  found_none : (given : Forest Source) → has given ≡ false → found_with k given ≡ None
  found_none end none = refl
  found_none (node s below after) none = by (is_source_of k s) none (λ h. found_none after h)
    where
      by : (b : Bool) → (b || has after) ≡ false → (has after ≡ false → found_with k after ≡ None) → cond b (Some (s, below)) (found_with k after) ≡ None
      by true none rest = absurd cc
      by false none rest = rest none

  pub given_same : (given own : Forest Source) → has given ≡ true → SameFor k (join (others given own) given) given
  given_same given own some = (
    first_stated k given own ∙ found_some given some (found_with k own),
    all_stated k given own ∙ ap (λ b. cond b (all_with k given) (all_with k own)) some,
  )

  pub kept_same : (given own : Forest Source) → has given ≡ false → SameFor k (join (others given own) given) own
  kept_same given own none = (
    first_stated k given own ∙ ap (λ (x : Option (Source × Forest Source)). first_of x (found_with k own)) (found_none given none),
    all_stated k given own ∙ ap (λ b. cond b (all_with k given) (all_with k own)) none,
  )

  -- ---- one row in front of another

  pub join_same : (a f g : Forest Source) → SameFor k f g → SameFor k (join a f) (join a g)
  join_same end f g same = same
  join_same (node s below after) f g same =
      let rest = join_same after f g same in (
        ap (λ (x : Option (Source × Forest Source)). cond (is_source_of k s) (Some (s, below)) x) rest.0,
        ap (λ x. cond (is_source_of k s) (s ∷ x) x) rest.1,
      )

  join_none : (own f : Forest Source) → found_with k f ≡ None → all_with k f ≡ [] → SameFor k (join own f) own
  join_none end f none nothing = (none, nothing)
  join_none (node s below after) f none nothing =
      let rest = join_none after f none nothing in (
        ap (λ (x : Option (Source × Forest Source)). cond (is_source_of k s) (Some (s, below)) x) rest.0,
        ap (λ x. cond (is_source_of k s) (s ∷ x) x) rest.1,
      )

  pub turned : (f g : Forest Source) → SameFor k f g → SameFor k g f
  turned f g same = (sym same.0, sym same.1)

  -- ---- a row without its defaults

  not_default : same_keyword default_word k ≡ false → (s : Source) → is_source_of default_word s ≡ true → is_source_of k s ≡ false
  not_default other s is = by (is_source_of k s) refl
    where
      by : (b : Bool) → is_source_of k s ≡ b → b ≡ false
      by false e = refl
      by true e = absurd (let first : default_word ≡ s.keyword = same_is default_word s.keyword is in
          let second : k ≡ s.keyword = same_is k s.keyword e in
          let clash : true ≡ false = ap (same_keyword default_word) (first ∙ sym second) ∙ other in cc)

  pub default_other : same_keyword default_word k ≡ false → (f : Forest Source) → SameFor k (without_default f) f
  default_other other end = (refl, refl)
  default_other other (node s below after) = by (is_source_of default_word s) refl (default_other other after)
    where
      by : (b : Bool) → is_source_of default_word s ≡ b → SameFor k (without_default after) after
          → SameFor k (cond b (without_default after) (node s below (without_default after))) (node s below after)
      by true is rest = (
        rest.0 ∙ sym (ap (λ x. cond x (Some (s, below)) (found_with k after)) (not_default other s is)),
        rest.1 ∙ sym (ap (λ x. cond x (s ∷ all_with k after) (all_with k after)) (not_default other s is)),
      )
      by false is rest = (
        ap (λ (x : Option (Source × Forest Source)). cond (is_source_of k s) (Some (s, below)) x) rest.0,
        ap (λ x. cond (is_source_of k s) (s ∷ x) x) rest.1,
      )

  pub default_none : same_keyword default_word k ≡ true → (f : Forest Source) → SameFor k end (without_default f)
  default_none same end = (refl, refl)
  default_none same (node s below after) = by (is_source_of default_word s) refl (default_none same after)
    where
      is : default_word ≡ k
      is = same_is default_word k same

      by : (b : Bool) → is_source_of default_word s ≡ b → SameFor k end (without_default after)
          → SameFor k end (cond b (without_default after) (node s below (without_default after)))
      by true e rest = rest
      by false e rest =
          let none : is_source_of k s ≡ false = ap (λ (j : Keyword). same_keyword j s.keyword) (sym is) ∙ e in (
            rest.0 ∙ sym (ap (λ x. cond x (Some (s, below)) (found_with k (without_default after))) none),
            rest.1 ∙ sym (ap (λ x. cond x (s ∷ all_with k (without_default after)) (all_with k (without_default after))) none),
          )

  default_alike : (f g : Forest Source) → SameFor k f g → SameFor k (without_default f) (without_default g)
  default_alike f g same = by (same_keyword default_word k) refl
    where
      by : (b : Bool) → same_keyword default_word k ≡ b → SameFor k (without_default f) (without_default g)
      by true e = same_both (without_default f) end (without_default g) (turned end (without_default f) (default_none e f)) (default_none e g)
      by false e = same_both (without_default f) f (without_default g) (default_other e f)
          (same_both f g (without_default g) same (turned (without_default g) g (default_other e g)))

  given_rows : (r f g : Forest Source) → SameFor k f g → SameFor k (join (others r f) r) (join (others r g) r)
  given_rows r f g same = (
    first_stated k r f ∙ (ap (λ (x : Option (Source × Forest Source)). first_of (found_with k r) x) same.0 ∙ sym (first_stated k r g)),
    all_stated k r f ∙ (ap (λ x. cond (has r) (all_with k r) x) same.1 ∙ sym (all_stated k r g)),
  )

  -- ---- conditions are none of a keyword but that with which they are kept

  module _ (other : same_keyword extension_word k ≡ false) where
    not_kept : (s : Source) → is_source_of k s ≡ true → is_kept s ≡ false
    not_kept s is = let same : k ≡ s.keyword = same_is k s.keyword is in ap (same_keyword extension_word) (sym same) ∙ other

    not_of_it : (s : Source) → is_kept s ≡ true → is_source_of k s ≡ false
    not_of_it s kept = by (is_source_of k s) refl
      where
        by : (b : Bool) → is_source_of k s ≡ b → b ≡ false
        by false e = refl
        by true e = let clash : true ≡ false = sym kept ∙ not_kept s e in absurd cc

    module _ (language : Language) where
      none_kept : (f : Forest Source) → are_kept_right language f ≡ true
          → (found_with k (guard_row language (own_of f)) ≡ None) × (all_with k (guard_row language (own_of f)) ≡ [])
      none_kept end kept = (refl, refl)
      none_kept (node s below after) kept =
          let parts = kept_parts language s below after kept in
          by (defines_node s.keyword) parts.0 (none_kept after parts.2)
        where
          rest : Forest Source
          rest = guard_row language (own_of after)

          one : (b : Bool) → is_guard language s ≡ b → is_kept_right language s ≡ true → (found_with k rest ≡ None) × (all_with k rest ≡ [])
              → (found_with k (cond b (node s below rest) rest) ≡ None) × (all_with k (cond b (node s below rest) rest) ≡ [])
          one true is right none =
              let other_word = not_of_it s (as_kept language s right is) in (
                ap (λ x. cond x (Some (s, below)) (found_with k rest)) other_word ∙ none.0,
                ap (λ x. cond x (s ∷ all_with k rest) (all_with k rest)) other_word ∙ none.1,
              )
          one false is right none = none

          by : (d : Bool) → is_kept_right language s ≡ true → (found_with k rest ≡ None) × (all_with k rest ≡ [])
              → (found_with k (guard_row language (cond d (own_of after) (node s below (own_of after)))) ≡ None)
              × (all_with k (guard_row language (cond d (own_of after) (node s below (own_of after)))) ≡ [])
          by true right none = none
          by false right none = one (is_guard language s) refl right none

      conditions_same : (own f : Forest Source) → are_kept_right language f ≡ true
          → SameFor k (join own (guard_row language (own_of f))) own
      conditions_same own f kept = let none = none_kept f kept in join_none own (guard_row language (own_of f)) none.0 none.1

      without_both : (f : Forest Source) → are_kept_right language f ≡ true
          → SameFor k (without_guards language f) f × (has (without_guards language f) ≡ has f)
      without_both end kept = ((refl, refl), refl)
      without_both (node s below after) kept =
          let parts = kept_parts language s below after kept in
          by (is_guard language s) refl parts.0 (without_both after parts.2)
        where
          by : (b : Bool) → is_guard language s ≡ b → is_kept_right language s ≡ true
              → SameFor k (without_guards language after) after × (has (without_guards language after) ≡ has after)
              → SameFor k (cond b (without_guards language after) (node s below (without_guards language after))) (node s below after)
              × (has (cond b (without_guards language after) (node s below (without_guards language after))) ≡ has (node s below after))
          by true is right rest =
              let other_word = not_of_it s (as_kept language s right is) in (
                (
                  rest.0.0 ∙ sym (ap (λ x. cond x (Some (s, below)) (found_with k after)) other_word),
                  rest.0.1 ∙ sym (ap (λ x. cond x (s ∷ all_with k after) (all_with k after)) other_word),
                ),
                rest.1 ∙ sym (ap (λ x. x || has after) other_word),
              )
          by false is right rest = (
            (
              ap (λ (x : Option (Source × Forest Source)). cond (is_source_of k s) (Some (s, below)) x) rest.0.0,
              ap (λ x. cond (is_source_of k s) (s ∷ x) x) rest.0.1,
            ),
            ap (λ x. is_source_of k s || x) rest.1,
          )

      -- a refine
      module _ (f : Forest Source) (kept : are_kept_right language f ≡ true) where
        abbrev w : Forest Source
        w = without_guards language f

        abbrev whole : Forest Source → Forest Source
        whole own = join (others w own) f

        joined : (own : Forest Source) → SameFor k (whole own) (join (others w own) w)
        joined own = join_same (others w own) f w (turned w f (without_both f kept).0)

        pub joined_given : (own : Forest Source) → has f ≡ true → SameFor k f (whole own)
        joined_given own some = turned (whole own) f (same_both (whole own) (join (others w own) w) f (joined own)
            (same_both (join (others w own) w) w f (given_same w own ((without_both f kept).1 ∙ some)) (without_both f kept).0))

        pub joined_kept : (own : Forest Source) → has f ≡ false → SameFor k own (whole own)
        joined_kept own none = turned (whole own) own
            (same_both (whole own) (join (others w own) w) own (joined own) (kept_same w own ((without_both f kept).1 ∙ none)))

        joined_alike : (own more : Forest Source) → SameFor k own more → SameFor k (whole own) (whole more)
        joined_alike own more same = same_both (whole own) (join (others w own) w) (whole more) (joined own)
            (same_both (join (others w own) w) (join (others w more) w) (whole more) (given_rows w own more same)
            (turned (whole more) (join (others w more) w) (joined more)))

        -- conditions
        pub keeps_own : (own : Forest Source) → SameFor k own (join own (guard_row language (own_of f)))
        keeps_own own = turned (join own (guard_row language (own_of f))) own (conditions_same own f kept)

        asked_alike : (own more : Forest Source) → SameFor k own more
            → SameFor k (join own (guard_row language (own_of f))) (join more (guard_row language (own_of f)))
        asked_alike own more same = same_both (join own (guard_row language (own_of f))) own (join more (guard_row language (own_of f)))
            (conditions_same own f kept) (same_both own more (join more (guard_row language (own_of f))) same (keeps_own more))

    -- ---- one row or the one before

    pub picks_refine : (given : GivenRow) (own : Forest Source) → given.is_refine ≡ true → has (row_of given) ≡ true → SameFor k (row_of given) (stated_with_row given own)
    picks_refine given own refines some =
        subst (λ b. SameFor k (row_of given) (cond b (join (others (without_guards (language_of given) (row_of given)) own) (row_of given))
        (join own (guard_row (language_of given) (own_of (row_of given)))))) (sym refines)
        (joined_given (language_of given) (row_of given) given.kept own some)

    pub picks_before : (given : GivenRow) (own : Forest Source) → (given.is_refine ≡ true → has (row_of given) ≡ false) → SameFor k own (stated_with_row given own)
    picks_before given own none = by given.is_refine none
      where
        by : (b : Bool) → (b ≡ true → has (row_of given) ≡ false)
            → SameFor k own (cond b (join (others (without_guards (language_of given) (row_of given)) own) (row_of given))
            (join own (guard_row (language_of given) (own_of (row_of given)))))
        by true none = joined_kept (language_of given) (row_of given) given.kept own (none refl)
        by false none = keeps_own (language_of given) (row_of given) given.kept own

    -- ---- one after another

    row_same : (given : GivenRow) (f g : Forest Source) → SameFor k f g → SameFor k (stated_with_row given f) (stated_with_row given g)
    row_same given f g same = by given.is_refine
      where
        l : Language
        l = language_of given

        r : Forest Source
        r = row_of given

        by : (b : Bool) → SameFor k (cond b (join (others (without_guards l r) f) r) (join f (guard_row l (own_of r))))
            (cond b (join (others (without_guards l r) g) r) (join g (guard_row l (own_of r))))
        by true = joined_alike l r given.kept f g same
        by false = asked_alike l r given.kept f g same

    with_same : (given : Given) (f g : Forest Source) → SameFor k f g → SameFor k (stated_with given f) (stated_with given g)
    with_same (Row given) f g same = row_same given f g same
    with_same NoDefault f g same = default_alike f g same

    pub stated_same : (given : List Given) (f g : Forest Source) → SameFor k f g → SameFor k (stated_after f given) (stated_after g given)
    stated_same [] f g same = same
    stated_same (one ∷ given) f g same = stated_same given (stated_with one f) (stated_with one g) (with_same one f g same)

    -- those that are left, the first of which is this one
    pub next_given : (given : List Given) (i : ℕ) (one : Given) (before after own : Forest Source) → i < length given → one ≡ get_or given i one
        → SameFor k after (stated_with one before) → SameFor k (stated_after before (drop i given)) own → SameFor k (stated_after after (drop (i + 1) given)) own
    next_given given i one before after own within at same so_far =
        let rest = drop (i + 1) given in
        same_both (stated_after after rest) (stated_after (stated_with one before) rest) own
        (stated_same rest after (stated_with one before) same)
        (subst (λ gs. SameFor k (stated_after before gs) own) (drop_at given i one within at) so_far)
      where
        drop_at : {A : Type 0} (xs : List A) (i : ℕ) (x : A) → i < length xs → x ≡ get_or xs i x → drop i xs ≡ x ∷ drop (i + 1) xs
        drop_at [] i x within is = absurd (omega (arith, within))
        drop_at (y ∷ ys) zero x within is = ap (λ z. z ∷ ys) (sym is)
        drop_at (y ∷ ys) (suc i) x within is =
            let next : suc i + 1 ≡ suc (i + 1) = omega arith in
            drop_at ys i x (omega (arith, within)) is ∙ ap (λ n. x ∷ drop n (y ∷ ys)) (sym next)

  pub same_argument : (f g : Forest Source) → SameFor k f g → argument_with k f ≡ argument_with k g
  same_argument f g same = ap (option_map argument_in) (sym (first_found k f) ∙ (ap (option_map (λ s. s.0)) same.0 ∙ first_found k g))

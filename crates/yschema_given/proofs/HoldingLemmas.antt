-- Whether conditions hold of what nodes state once they are given something.
use Rattle.std.proofs.Common.{◌≡◌, ℕ, Bool, true, false, cond, not, ◌&&◌, ◌||◌, refl, sym, ap, ap₂, ◌∙◌}
use Rattle.std.specs.List.{list_any}
use Rattle.yspec.specs.Forest.{Forest, end, node, row, join}
use Rattle.yspec.specs.linking.Keyword.{Keyword, same_keyword, extension_word, default_word}
use Rattle.yspec.specs.linking.Parts.{defines_node, own_of}
use Rattle.yspec.specs.linking.Expansion.{others}
use Rattle.yspec.specs.linking.Source.{Source, is_source_of}
use Rattle.yspec.proofs.LinkingProofs.KeywordLemmas.{same_is}
use Rattle.yspec_wide.specs.Language.{Language}
use Rattle.yspec_wide.specs.Sources.{is_guard, guard_row, without_guards}
use Rattle.yspec_wide.specs.Standing.{without_default}
use Rattle.yschema_given.specs.Keeping.{are_kept_right, is_kept, is_kept_right}
use Rattle.yschema_given.specs.Holding.{kept_hold, asked_hold, has_other}
use Rattle.yschema_given.proofs.KeepingLemmas.{none_kept, as_kept, kept_parts, own_conditions}

and_more : (a b c : Bool) → (a && (b && c)) ≡ ((a && b) && c)
and_more true b c = refl
and_more false b c = refl

module _ (holds : ℕ → Bool) where
  pub hold_joined : (f g : Forest Source) → kept_hold holds (join f g) ≡ (kept_hold holds f && kept_hold holds g)
  hold_joined end g = refl
  hold_joined (node s below after) g = ap (λ b. (not (is_kept s) || holds s.number) && b) (hold_joined after g)
      ∙ and_more (not (is_kept s) || holds s.number) (kept_hold holds after) (kept_hold holds g)

  -- one that isn't kept so asks nothing
  unkept : (s : Source) → is_kept s ≡ false → (b : Bool) → ((not (is_kept s) || holds s.number) && b) ≡ b
  unkept s e b = ap (λ k. (not k || holds s.number) && b) e

  pub hold_own : (f : Forest Source) → kept_hold holds (own_of f) ≡ kept_hold holds f
  hold_own end = refl
  hold_own (node s below after) = by (defines_node s.keyword) refl (hold_own after)
    where
      by : (d : Bool) → defines_node s.keyword ≡ d → kept_hold holds (own_of after) ≡ kept_hold holds after
          → kept_hold holds (cond d (own_of after) (node s below (own_of after))) ≡ ((not (is_kept s) || holds s.number) && kept_hold holds after)
      by true d rest = rest ∙ sym (unkept s (none_kept s d) (kept_hold holds after))
      by false d rest = ap (λ b. (not (is_kept s) || holds s.number) && b) rest

  default_unkept : (s : Source) → is_source_of default_word s ≡ true → is_kept s ≡ false
  default_unkept s is = let same : default_word ≡ s.keyword = same_is default_word s.keyword is in sym (ap (same_keyword extension_word) same)

  pub hold_default : (f : Forest Source) → kept_hold holds (without_default f) ≡ kept_hold holds f
  hold_default end = refl
  hold_default (node s below after) = by (is_source_of default_word s) refl (hold_default after)
    where
      by : (d : Bool) → is_source_of default_word s ≡ d → kept_hold holds (without_default after) ≡ kept_hold holds after
          → kept_hold holds (cond d (without_default after) (node s below (without_default after))) ≡ ((not (is_kept s) || holds s.number) && kept_hold holds after)
      by true d rest = rest ∙ sym (unkept s (default_unkept s d) (kept_hold holds after))
      by false d rest = ap (λ b. (not (is_kept s) || holds s.number) && b) rest

  -- ---- what a refine takes the place of

  others_hold : (given f : Forest Source) → list_any (is_source_of extension_word) (row given) ≡ false → kept_hold holds (others given f) ≡ kept_hold holds f
  others_hold given end none = refl
  others_hold given (node s below after) none = by (list_any (is_source_of s.keyword) (row given)) refl (is_kept s) refl (others_hold given after none)
    where
      by : (b : Bool) → list_any (is_source_of s.keyword) (row given) ≡ b → (k : Bool) → is_kept s ≡ k → kept_hold holds (others given after) ≡ kept_hold holds after
          → kept_hold holds (cond b (others given after) (node s below (others given after))) ≡ ((not (is_kept s) || holds s.number) && kept_hold holds after)
      by true is true k rest = absurd (let same : extension_word ≡ s.keyword = same_is extension_word s.keyword k in
          let clash : true ≡ false = sym is ∙ (ap (λ (j : Keyword). list_any (is_source_of j) (row given)) (sym same) ∙ none) in cc)
      by true is false k rest = rest ∙ sym (unkept s k (kept_hold holds after))
      by false is k e rest = ap (λ b. (not (is_kept s) || holds s.number) && b) rest

  others_lost : (given f : Forest Source) → list_any (is_source_of extension_word) (row given) ≡ true → kept_hold holds (others given f) ≡ true
  others_lost given end some = refl
  others_lost given (node s below after) some = by (list_any (is_source_of s.keyword) (row given)) refl (is_kept s) refl (others_lost given after some)
    where
      by : (b : Bool) → list_any (is_source_of s.keyword) (row given) ≡ b → (k : Bool) → is_kept s ≡ k → kept_hold holds (others given after) ≡ true
          → kept_hold holds (cond b (others given after) (node s below (others given after))) ≡ true
      by true is k e rest = rest
      by false is true k rest = absurd (let same : extension_word ≡ s.keyword = same_is extension_word s.keyword k in
          let clash : false ≡ true = sym is ∙ (ap (λ (j : Keyword). list_any (is_source_of j) (row given)) (sym same) ∙ some) in cc)
      by false is false k rest = unkept s k (kept_hold holds (others given after)) ∙ rest

  module _ (language : Language) where
    other_is : (f : Forest Source) → list_any (is_source_of extension_word) (row (without_guards language f)) ≡ has_other language f
    other_is end = refl
    other_is (node s below after) = by (is_guard language s) (other_is after)
      where
        neither : (b : Bool) → (b && false) ≡ false
        neither true = refl
        neither false = refl

        both : (b : Bool) → (b && true) ≡ b
        both true = refl
        both false = refl

        by : (c : Bool) → list_any (is_source_of extension_word) (row (without_guards language after)) ≡ has_other language after
            → list_any (is_source_of extension_word) (row (cond c (without_guards language after) (node s below (without_guards language after))))
            ≡ ((is_kept s && not c) || has_other language after)
        by true rest = rest ∙ sym (ap (λ b. b || has_other language after) (neither (is_kept s)))
        by false rest = ap₂ (λ a b. a || b) (sym (both (is_kept s))) rest

    pub refined_kept : (given own : Forest Source) → has_other language given ≡ false
        → kept_hold holds (join (others (without_guards language given) own) given) ≡ (kept_hold holds own && kept_hold holds given)
    refined_kept given own none = hold_joined (others (without_guards language given) own) given
        ∙ ap (λ b. b && kept_hold holds given) (others_hold (without_guards language given) own (other_is given ∙ none))

    pub refined_lost : (given own : Forest Source) → has_other language given ≡ true
        → kept_hold holds (join (others (without_guards language given) own) given) ≡ kept_hold holds given
    refined_lost given own some = hold_joined (others (without_guards language given) own) given
        ∙ ap (λ b. b && kept_hold holds given) (others_lost (without_guards language given) own (other_is given ∙ some))

    asked_kept : (f : Forest Source) → are_kept_right language f ≡ true → kept_hold holds (guard_row language f) ≡ asked_hold language holds f
    asked_kept end kept = refl
    asked_kept (node s below after) kept =
        let parts = kept_parts language s below after kept in
        by (is_guard language s) refl parts.0 (asked_kept after parts.2)
      where
        by : (c : Bool) → is_guard language s ≡ c → is_kept_right language s ≡ true → kept_hold holds (guard_row language after) ≡ asked_hold language holds after
            → kept_hold holds (cond c (node s below (guard_row language after)) (guard_row language after)) ≡ ((not c || holds s.number) && asked_hold language holds after)
        by true is right rest = ap₂ (λ k b. (not k || holds s.number) && b) (as_kept language s right is) rest
        by false is right rest = rest

    pub conditioned_holds : (given own : Forest Source) → are_kept_right language given ≡ true
        → kept_hold holds (join own (guard_row language (own_of given))) ≡ (kept_hold holds own && asked_hold language holds given)
    conditioned_holds given own kept = hold_joined own (guard_row language (own_of given))
        ∙ ap (λ b. kept_hold holds own && b) (ap (kept_hold holds) (own_conditions language given kept) ∙ asked_kept given kept)

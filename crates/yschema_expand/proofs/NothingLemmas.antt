-- Where there are no nodes, no path leads to one: refines and augments change nothing, and each of them is told.
use Rattle.std.proofs.Common.{◌≡◌, ℕ, Bool, true, false, not, cond, ◌&&◌, List, [], ◌∷◌, ◌++◌, Option, None, refl, sym, ap, ap₂, ◌∙◌}
use Rattle.std.specs.Option.{option_map_or}
use Rattle.yspec.specs.Forest.{Forest, end, node}
use Rattle.yspec.specs.schema.Breaks.{Break, broken, when}
use Rattle.yspec.specs.linking.Augments.{Augment}
use Rattle.yspec.specs.linking.Keyword.{refine_word}
use Rattle.yspec.specs.linking.Source.{Source}
use Rattle.yspec.specs.linking.Parts.{Part, defines_node, own_of}
use Rattle.yspec.specs.linking.Prefixes.{NodeName}
use Rattle.yspec.specs.linking.Expansion.{laid, part_at, changed_at, is_refine, refine_steps, all_refine_breaks, unfit_in}
use Rattle.yspec_wide.specs.Language.{Language, core, rfc}
use Rattle.yspec_wide.specs.Expansion.{overridden_in, is_fit_in, may_bear_in, may_take_in, after_refine_in, refine_breaks_in, inner_augments, brought_by, put_below, is_fit_augment, inner_breaks}
use Rattle.yschema_expand.proofs.UsedLemmas.{no_other}

no_target : (steps : List NodeName) → part_at steps end ≡ None
no_target [] = refl
no_target (step ∷ []) = refl
no_target (step ∷ next ∷ steps) = refl

-- ---- refines

-- one is among what a `uses` states itself
pub own_refines : (row : Forest Source) → all_refine_breaks (own_of row) ≡ all_refine_breaks row
own_refines end = refl
own_refines (node s below after) = by (defines_node s.keyword) refl (own_refines after)
  where
    by : (d : Bool) → defines_node s.keyword ≡ d → all_refine_breaks (own_of after) ≡ all_refine_breaks after
        → all_refine_breaks (cond d (own_of after) (node s below (own_of after))) ≡ when (is_refine s) (broken 14 s.home s.statement.line) ++ all_refine_breaks after
    by true stands rest = rest
        ∙ sym (ap (λ b. when b (broken 14 s.home s.statement.line) ++ all_refine_breaks after) (no_other refine_word s.keyword refl stands))
    by false stands rest = ap (λ bs. when (is_refine s) (broken 14 s.home s.statement.line) ++ bs) rest

module _ (language : Language) (modules : Forest Source) (owner : ℕ) where
  none_fit : (s : Source) (given : Forest Source) → is_fit_in language modules owner s given end ≡ false
  none_fit s given = ap (λ (o : Option Part). option_map_or (λ p. may_bear_in language p given) o false) (no_target (refine_steps modules owner s))

  none_changed : (s : Source) (given : Forest Source) → after_refine_in language modules owner s given end ≡ end
  none_changed s given = by (is_refine s) (is_fit_in language modules owner s given end) (none_fit s given)
    where
      by : (a b : Bool) → b ≡ false → cond (a && b) (changed_at (refine_steps modules owner s) (overridden_in language given) end) end ≡ end
      by true true unfit = absurd cc
      by true false unfit = refl
      by false b unfit = refl

  pub refines_of_none : (own : Forest Source) → refine_breaks_in language modules owner own end ≡ all_refine_breaks own
  refines_of_none end = refl
  refines_of_none (node s given after) = ap₂ (λ x y. x ++ y)
      (by (is_refine s) (is_fit_in language modules owner s given end) (none_fit s given))
      (ap (refine_breaks_in language modules owner after) (none_changed s given) ∙ refines_of_none after)
    where
      by : (a b : Bool) → b ≡ false → when (a && not b) (broken 14 s.home s.statement.line) ≡ when a (broken 14 s.home s.statement.line)
      by true true unfit = absurd cc
      by true false unfit = refl
      by false b unfit = refl

  -- ---- augments below a `uses`

  augment_unfit : (a : Augment) → is_fit_augment language modules owner end a ≡ false
  augment_unfit a = ap (λ (o : Option Part). option_map_or (may_take_in language modules a) o false) (no_target (refine_steps modules owner a.source))

  pub none_first : (told : Part → List Break) (meant : Part → Forest Part) (a : Augment) (others : List Augment)
      → inner_breaks language told meant modules owner (a ∷ others) end
      ≡ unfit_in told (laid a.given) ++ (broken 14 a.source.home a.source.statement.line ++ inner_breaks language told meant modules owner others end)
  unfolding inner_breaks
  none_first told meant a others = ap (λ b. unfit_in told (laid a.given) ++ (when (not b) (broken 14 a.source.home a.source.statement.line)
      ++ inner_breaks language told meant modules owner others
      (cond b (changed_at (refine_steps modules owner a.source) (put_below (brought_by language meant owner a)) end) end))) (augment_unfit a)

  pub none_last : (told : Part → List Break) (meant : Part → Forest Part) → inner_breaks language told meant modules owner [] end ≡ []
  unfolding inner_breaks
  none_last told meant = refl

pub augments_none : (language : Language) → inner_augments language end ≡ []
augments_none core = refl
augments_none (rfc wide) = refl

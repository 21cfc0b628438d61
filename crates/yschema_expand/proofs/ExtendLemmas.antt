-- What an augment below a `uses` does to nodes, by where its target stands.
use Rattle.std.proofs.Common.{◌≡◌, ℕ, Bool, true, false, cond, Option, Some, None, refl, sym, ap, ◌∙◌}
use Rattle.std.specs.Prelude.{option_map}
use Rattle.std.specs.Option.{option_map_or}
use Rattle.yspec.specs.Forest.{Forest}
use Rattle.yspec.specs.linking.Augments.{Augment}
use Rattle.yspec.specs.linking.Source.{Source}
use Rattle.yspec.specs.linking.Parts.{Part, within}
use Rattle.yspec.specs.linking.Expansion.{refine_steps, changed_at}
use Rattle.yspec_wide.specs.Expansion.{after_augment, brought_by, is_fit_augment, may_take_in, put_below}
use Rattle.yspec_wide.specs.Language.{Language}
use Rattle.yschema_expand.specs.Hanging.{put_at}
use Rattle.yschema_expand.specs.Targets.{Found, found_at, inner_target, taking_number}
use Rattle.yschema_expand.proofs.PathLemmas.{path_put}
use Rattle.yschema_expand.proofs.TargetLemmas.{part_found}

module _ (language : Language) (meant : Part → Forest Part) (modules : Forest Source) (owner : ℕ) (a : Augment) (k : ℕ) (f : Forest Part) where
  abbrev fits : Found → Bool
  fits x = may_take_in language modules a x.part

  abbrev found : Option Found
  found = found_at (refine_steps modules owner a.source) k f

  fit_is : is_fit_augment language modules owner f a ≡ option_map_or fits found false
  fit_is = ap (λ o. option_map_or (may_take_in language modules a) o false) (sym (part_found (refine_steps modules owner a.source) k f)) ∙ by found
    where
      by : (o : Option Found) → option_map_or (may_take_in language modules a) (option_map (λ (x : Found). x.part) o) false ≡ option_map_or fits o false
      by None = refl
      by (Some x) = refl

  -- one without a target changes nothing
  pub not_extended : None ≡ inner_target language modules owner a k f → (is_fit_augment language modules owner f a ≡ false) × (after_augment language meant modules owner a f ≡ f)
  not_extended none =
      let unfit = fit_is ∙ by found none in
      (unfit, ap (λ b. cond b (changed_at (refine_steps modules owner a.source) (put_below (brought_by language meant owner a)) f) f) unfit)
    where
      of_one : (x : Found) (b : Bool) → None ≡ cond b (Some x.number) None → b ≡ false
      of_one x true e = absurd cc
      of_one x false e = refl

      by : (o : Option Found) → None ≡ taking_number language modules a o → option_map_or fits o false ≡ false
      by None e = refl
      by (Some x) e = of_one x (fits x) e

  -- The others put all that they add last below the node of the number of their target.
  pub extended : (n : ℕ) → Some n ≡ inner_target language modules owner a k f
      → (x : Found) × (found ≡ Some x) × (x.number ≡ n) × (is_fit_augment language modules owner f a ≡ true)
      × (put_at n k (within x.part.source (brought_by language meant owner a)) f ≡ after_augment language meant modules owner a f)
  extended n some = by found refl some
    where
      of_one : (x : Found) (b : Bool) → Some n ≡ cond b (Some x.number) None → (b ≡ true) × (x.number ≡ n)
      of_one x true e = let same : n ≡ x.number = cc in (refl, sym same)
      of_one x false e = absurd cc

      by : (o : Option Found) → found ≡ o → Some n ≡ taking_number language modules a o
          → (x : Found) × (found ≡ Some x) × (x.number ≡ n) × (is_fit_augment language modules owner f a ≡ true)
          × (put_at n k (within x.part.source (brought_by language meant owner a)) f ≡ after_augment language meant modules owner a f)
      by None at e = absurd cc
      by (Some x) at e =
          let one = of_one x (fits x) e in
          let fit = fit_is ∙ (ap (λ o. option_map_or fits o false) at ∙ one.0) in (
            x,
            at,
            one.1,
            fit,
            ap (λ m. put_at m k (within x.part.source (brought_by language meant owner a)) f) (sym one.1)
                ∙ (path_put (brought_by language meant owner a) (refine_steps modules owner a.source) k f x at
                ∙ ap (λ b. cond b (changed_at (refine_steps modules owner a.source) (put_below (brought_by language meant owner a)) f) f) (sym fit)),
          )

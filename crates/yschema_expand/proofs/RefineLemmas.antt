-- What a refine does to nodes, by where its target stands.
use Rattle.std.proofs.Common.{◌≡◌, ℕ, ◌++◌, Bool, true, false, cond, not, ◌&&◌, List, [], length, Option, Some, None, refl, sym, ap, ap₂, ◌∙◌}
use Rattle.std.specs.Prelude.{option_map}
use Rattle.std.specs.Option.{option_map_or}
use Rattle.yspec.specs.Forest.{Forest, node, end}
use Rattle.yspec.specs.linking.Source.{Source}
use Rattle.yspec.specs.linking.Parts.{Part}
use Rattle.yspec.specs.linking.Expansion.{is_refine, refine_steps, changed_at}
use Rattle.yspec.specs.schema.Breaks.{Break, when}
use Rattle.yspec_wide.specs.Expansion.{is_fit_in, may_bear_in, overridden_in, after_refine_in, refined_in}
use Rattle.yspec_wide.specs.Language.{Language}
use Rattle.ybase_preorder.specs.Layout.{Place, places}
use Rattle.yschema_expand.specs.TableView.{changed_place, refined_part}
use Rattle.yschema_expand.specs.Targets.{Found, found_at, fit_number, target_in}
use Rattle.yschema_expand.proofs.TargetLemmas.{Becomes, part_found, path_found, places_changed}

module _ (language : Language) (modules : Forest Source) (owner : ℕ) (s : Source) (given : Forest Source) (k : ℕ) (f : Forest Part) where
  abbrev fits : Found → Bool
  fits x = may_bear_in language x.part given

  fit_is : is_fit_in language modules owner s given f ≡ option_map_or fits (found_at (refine_steps modules owner s) k f) false
  fit_is = ap (λ o. option_map_or (λ p. may_bear_in language p given) o false) (sym (part_found (refine_steps modules owner s) k f)) ∙ by (found_at (refine_steps modules owner s) k f)
    where
      by : (o : Option Found) → option_map_or (λ p. may_bear_in language p given) (option_map (λ (x : Found). x.part) o) false ≡ option_map_or fits o false
      by None = refl
      by (Some x) = refl

  pub isn't_fit : None ≡ target_in language modules owner s given k f → is_fit_in language modules owner s given f ≡ false
  isn't_fit none = fit_is ∙ by (found_at (refine_steps modules owner s) k f) none
    where
      of_one : (x : Found) (b : Bool) → None ≡ cond b (Some x.number) None → b ≡ false
      of_one x true e = absurd cc
      of_one x false e = refl

      by : (o : Option Found) → None ≡ fit_number language given o → option_map_or fits o false ≡ false
      by None e = refl
      by (Some x) e = of_one x (fits x) e

  pub is_fit_there : (n : ℕ) → Some n ≡ target_in language modules owner s given k f
      → (is_fit_in language modules owner s given f ≡ true) × Becomes (refined_part language given) n k f (changed_at (refine_steps modules owner s) (overridden_in language given) f)
  is_fit_there n some =
      let both = by (found_at (refine_steps modules owner s) k f) refl some in
      (fit_is ∙ both.0, both.1)
    where
      of_one : (x : Found) (b : Bool) → Some n ≡ cond b (Some x.number) None → (b ≡ true) × (x.number ≡ n)
      of_one x true e = let same : n ≡ x.number = cc in (refl, sym same)
      of_one x false e = absurd cc

      by : (o : Option Found) → found_at (refine_steps modules owner s) k f ≡ o → Some n ≡ fit_number language given o
          → (option_map_or fits o false ≡ true) × Becomes (refined_part language given) n k f (changed_at (refine_steps modules owner s) (overridden_in language given) f)
      by None found e = absurd cc
      by (Some x) found e =
          let one = of_one x (fits x) e in
          let there = path_found (refined_part language given) (refine_steps modules owner s) k f x found in
          (one.0, (there.0, sym one.1 ∙ there.1, there.2, there.3))

  -- the places, and what is told
  pub applied : (n : ℕ) (earlier : List (Place Part)) (parent : Option ℕ) → is_refine s ≡ true → length earlier ≡ k → Some n ≡ target_in language modules owner s given k f
      → (changed_place n (refined_part language given) (earlier ++ places parent k f) ≡ earlier ++ places parent k (after_refine_in language modules owner s given f))
  applied n earlier parent refines count some =
      let fit = is_fit_there n some in
      places_changed (refined_part language given) earlier parent n k f (changed_at (refine_steps modules owner s) (overridden_in language given) f) count fit.1
      ∙ ap (λ b. earlier ++ places parent k (cond b (changed_at (refine_steps modules owner s) (overridden_in language given) f) f))
      (sym (ap₂ (λ x y. x && y) refines fit.0))

  pub nothing_told : (bs : List Break) (n : ℕ) → Some n ≡ target_in language modules owner s given k f → when (is_refine s && not (is_fit_in language modules owner s given f)) bs ≡ []
  nothing_told bs n some = ap (λ b. when (is_refine s && not b) bs) (is_fit_there n some).0 ∙ by (is_refine s)
    where
      by : (b : Bool) → when (b && false) bs ≡ []
      by true = refl
      by false = refl

  pub not_applied : is_refine s ≡ true → None ≡ target_in language modules owner s given k f
      → (after_refine_in language modules owner s given f ≡ f)
  not_applied refines none = ap (λ b. cond b (changed_at (refine_steps modules owner s) (overridden_in language given) f) f)
      (ap₂ (λ x y. x && y) refines (isn't_fit none))

  pub told : (bs : List Break) → is_refine s ≡ true → None ≡ target_in language modules owner s given k f → when (is_refine s && not (is_fit_in language modules owner s given f)) bs ≡ bs
  told bs refines none = ap₂ (λ x y. when (x && not y) bs) refines (isn't_fit none)

-- ---- one after another

pub refined_first : (language : Language) (modules : Forest Source) (owner : ℕ) (s : Source) (given after : Forest Source) (f : Forest Part)
    → refined_in language modules owner (node s given after) f ≡ refined_in language modules owner after (after_refine_in language modules owner s given f)
unfolding refined_in
refined_first language modules owner s given after f = refl

pub refined_none : (language : Language) (modules : Forest Source) (owner : ℕ) (f : Forest Part) → refined_in language modules owner end f ≡ f
unfolding refined_in
refined_none language modules owner f = refl

-- Features whose names earlier ones have.
use Rattle.std.proofs.Common.{◌≡◌, Bool, true, false, cond, List, [], ◌∷◌, Option, refl, sym, ap, ◌∙◌}
use Rattle.std.specs.List.{list_any}
use Rattle.yspec.specs.Forest.{Forest, node}
use Rattle.yspec.specs.text.Text.{Text, is_text}
use Rattle.yspec.specs.linking.Source.{Source, argument_in}
use Rattle.yspec.specs.schema.Breaks.{Break, broken, when, least_from}
use Rattle.yspec.proofs.SchemaProofs.LeastLemmas.{least_of_both}
use Rattle.yspec_wide.specs.Features.{Feature, features_in, doubled_features, taken_feature_breaks}
use Rattle.yspec_wide.specs.Language.{Language}
use Rattle.yspec_wide.specs.Sources.{is_feature}

module _ (language : Language) where
  -- ---- the features of a row, one statement after another

  first_is : (b : Bool) (f : Feature) (fs : List Feature) → b ≡ true → cond b (f ∷ fs) fs ≡ f ∷ fs
  first_is true f fs e = refl
  first_is false f fs e = absurd cc

  first_is_other : (b : Bool) (f : Feature) (fs : List Feature) → b ≡ false → cond b (f ∷ fs) fs ≡ fs
  first_is_other false f fs e = refl
  first_is_other true f fs e = absurd cc

  pub next_other : (before after below : Forest Source) (s : Source) (names : List Text) (told whole : Option Break)
      → before ≡ node s below after → is_feature language s ≡ false
      → least_from told (doubled_features language names (features_in language before)) ≡ whole
      → least_from told (doubled_features language names (features_in language after)) ≡ whole
  next_other before after below s names told whole first other so_far =
      ap (λ fs. least_from told (doubled_features language names fs))
      (sym (ap (features_in language) first ∙ first_is_other (is_feature language s) (record { source = s; below = below }) (features_in language after) other))
      ∙ so_far

  pub next_feature : (before after below : Forest Source) (s : Source) (names : List Text) (told result whole : Option Break) (is_taken : Bool)
      → before ≡ node s below after → is_feature language s ≡ true → is_taken ≡ list_any (is_text (argument_in s)) names
      → result ≡ least_from told (when is_taken (broken 7 s.home s.statement.line))
      → least_from told (doubled_features language names (features_in language before)) ≡ whole
      → least_from result (doubled_features language (argument_in s ∷ names) (features_in language after)) ≡ whole
  next_feature before after below s names told result whole is_taken first is had judged so_far =
      let others = doubled_features language (argument_in s ∷ names) (features_in language after) in
      ap (λ t. least_from t others) (judged ∙ ap (λ b. least_from told (when b (broken 7 s.home s.statement.line))) had)
      ∙ (sym (least_of_both told (when (list_any (is_text (argument_in s)) names) (broken 7 s.home s.statement.line)) others)
      ∙ (ap (λ fs. least_from told (doubled_features language names fs))
      (sym (ap (features_in language) first ∙ first_is (is_feature language s) (record { source = s; below = below }) (features_in language after) is))
      ∙ so_far))

  -- ---- modules

  pub next_module : (before after below : Forest Source) (s : Source) (told result whole : Option Break) → before ≡ node s below after
      → result ≡ least_from told (doubled_features language [] (features_in language below))
      → least_from told (taken_feature_breaks language before) ≡ whole
      → least_from result (taken_feature_breaks language after) ≡ whole
  next_module before after below s told result whole first judged so_far =
      ap (λ t. least_from t (taken_feature_breaks language after)) judged
      ∙ (sym (least_of_both told (doubled_features language [] (features_in language below)) (taken_feature_breaks language after))
      ∙ (sym (ap (λ f. least_from told (taken_feature_breaks language f)) first) ∙ so_far))

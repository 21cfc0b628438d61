-- Features of a row by name, one statement after another.
use Rattle.std.proofs.Common.{◌≡◌, ℕ, Bool, true, false, cond, ◌&&◌, List, ◌∷◌, Option, Some, None, option_map, refl}
use Rattle.std.specs.Prelude.{find}
use Rattle.yspec.specs.Forest.{Forest, node, first_of}
use Rattle.yspec.specs.text.Text.{Text, is_text}
use Rattle.yspec.specs.linking.Source.{Source, argument_in}
use Rattle.yspec_wide.specs.Features.{Feature, is_named, features_in}
use Rattle.yspec_wide.specs.Language.{Language}
use Rattle.yspec_wide.specs.Sources.{is_feature}
use Rattle.ylink_features.specs.FeatureView.{feature_by, number_named}

found_first : (name : Text) (f : Feature) (fs : List Feature) (b : Bool)
    → option_map (λ (g : Feature). g.source.number) (find (is_named name) (cond b (f ∷ fs) fs))
    ≡ first_of (cond (b && is_text (argument_in f.source) name) (Some f.source.number) None) (option_map (λ (g : Feature). g.source.number) (find (is_named name) fs))
found_first name f fs false = refl
found_first name f fs true = by (is_text (argument_in f.source) name)
  where
    by : (d : Bool) → option_map (λ (g : Feature). g.source.number) (cond d (Some f) (find (is_named name) fs))
        ≡ first_of (cond d (Some f.source.number) None) (option_map (λ (g : Feature). g.source.number) (find (is_named name) fs))
    by true = refl
    by false = refl

pub feature_first : (language : Language) (name : Text) (s : Source) (below after : Forest Source)
    → number_named language name (node s below after) ≡ first_of (feature_by language name s) (number_named language name after)
feature_first language name s below after =
    found_first name (record { source = s; below = below }) (features_in language after) (is_feature language s)

-- what a name means in the row of a module, whichever its number
abbrev pub named_as : Language → Text → ℕ → Forest Source → Option ℕ
named_as language name home body = number_named language name body

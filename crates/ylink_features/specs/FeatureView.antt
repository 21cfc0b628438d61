-- Features as the specification's, by their numbers.
use Rattle.std.specs.Prelude.{◌≡◌, ℕ, ◌&&◌, Option, Some, None, find, option_map, option_and_then, slice_get, if◌then◌else◌}
use Rattle.yspec.specs.Forest.{Forest}
use Rattle.yspec.specs.text.Text.{Text, is_text}
use Rattle.yspec.specs.linking.Imports.{body_at}
use Rattle.yspec.specs.linking.Source.{Source, argument_in}
use Rattle.yspec_wide.specs.Features.{is_named, features_in}
use Rattle.yspec_wide.specs.Language.{Language}
use Rattle.yspec_wide.specs.Sources.{is_feature}
use Rattle.ylink_names.specs.FirstNamedView.{named}
use Rattle.ylink_features.specs.declared.features.Features.{Features}

-- the number of the first feature of a row with a name
abbrev pub number_named : Language → Text → Forest Source → Option ℕ
number_named language name body = option_map (λ f. f.source.number) (find (is_named name) (features_in language body))

-- that of a statement, where it is a feature of a name
abbrev pub feature_by : Language → Text → Source → Option ℕ
feature_by language name s = if is_feature language s && is_text (argument_in s) name then Some s.number else None

-- what is held of a module of a number
abbrev pub number_in : Features → ℕ → Text → Option ℕ
number_in features home name = option_and_then (λ numbers. named numbers name) (slice_get features.by_module.items home)

-- each name has in each module the number of the first feature of that name
abbrev pub AreFeaturesOf : Features → Language → Forest Source → Type 0
AreFeaturesOf features language modules =
    (home : ℕ) (name : Text) → number_in features home name ≡ number_named language name (body_at modules home)

-- What conditions ask, with their names as the numbers of features.
use Rattle.std.specs.Prelude.{ℕ, ◌≡◌, Bool, true, not, Option, None, option_map, if◌then◌else◌}
use Rattle.std.specs.Option.{option_map_or}
use Rattle.yspec.specs.Forest.{Forest}
use Rattle.yspec.specs.linking.Arguments.{Name}
use Rattle.yspec.specs.linking.Source.{Source}
use Rattle.yspec_wide.specs.Expressions.{Expression, feature, not_so, both_so, one_so}
use Rattle.yspec_wide.specs.Features.{feature_named, condition_holds}
use Rattle.yspec_wide.specs.Language.{Language}
use Rattle.yspec_wide.specs.Sources.{is_condition}
use Rattle.ylink_names.specs.PrefixView.{IsOf}
use Rattle.ylink_names.specs.declared.prefix.Prefixes.{Prefixes}
use Rattle.ylink_features.specs.FeatureView.{AreFeaturesOf}
use Rattle.ylink_features.specs.declared.features.Features.{Features}
use Rattle.ylink_standing.specs.ConditionView.{asks}
use Rattle.ylink_standing.specs.StandingView.{told}
use Rattle.ylink_standing.specs.declared.condition.Condition.{Condition}
use Rattle.ylink_standing.specs.declared.condition.Condition.TheVariants as conditions

-- an expression over the numbers of features
pub data Asked : Type 0 where
  on_number : Option ℕ → Asked
  not_asked : Asked → Asked
  both_asked : Asked → Asked → Asked
  one_asked : Asked → Asked → Asked

abbrev pub condition_view : Condition → Asked
condition_view (conditions.On number) = on_number number
condition_view (conditions.Not' p c) = not_asked (condition_view c)
condition_view (conditions.Both' p c q d) = both_asked (condition_view c) (condition_view d)
condition_view (conditions.OneOf' p c q d) = one_asked (condition_view c) (condition_view d)

-- that of an expression, by the numbers that names have
abbrev pub resolved : (Name → Option ℕ) → Expression → Asked
resolved number (feature name) = on_number (number name)
resolved number (not_so e) = not_asked (resolved number e)
resolved number (both_so e f) = both_asked (resolved number e) (resolved number f)
resolved number (one_so e f) = one_asked (resolved number e) (resolved number f)

abbrev pub resolved_or : (Name → Option ℕ) → Option Expression → Asked
resolved_or number e = option_map_or (resolved number) e (on_number None)

-- the number of the feature that a name means in a module
abbrev pub number_meant : Language → Forest Source → ℕ → Name → Option ℕ
number_meant language modules home n = option_map (λ f. f.source.number) (feature_named language modules home n)

-- what prefixes and names mean in a set
pub record AreMeant (prefixes : Prefixes) (features : Features) (language : Language) (modules : Forest Source) : Type 0 where
  pub prefixes_are : IsOf prefixes modules
  pub features_are : AreFeaturesOf features language modules

-- what a statement asks, whatever features are on
abbrev pub IsAsked : Option Condition → Language → Forest Source → Source → Type 0
IsAsked asked language modules s = (on : ℕ → Bool)
    → option_map_or (asks on) asked true ≡ (if is_condition language s then condition_holds language modules (told on) s else true)

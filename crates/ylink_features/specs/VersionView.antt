-- Versions of modules as the specification's.
use Rattle.std.specs.Prelude.{◌≡◌, ℕ, List, Option, option_map, option_and_then, slice_get, unwrap_or}
use Rattle.yspec.specs.Forest.{Forest}
use Rattle.yspec.specs.text.Text.{Text}
use Rattle.yspec.specs.linking.Imports.{module_called}
use Rattle.yspec.specs.linking.Keyword.{yang_version_word}
use Rattle.yspec.specs.linking.Source.{Source, argument_with}
use Rattle.yspec_wide.specs.Language as spec
use Rattle.ylink_conditions.specs.View.{version_view}
use Rattle.ylink_conditions.specs.declared.expression.YangVersion.{YangVersion}
use Rattle.ylink_names.specs.FirstNamedView.{named}
use Rattle.ylink_names.specs.declared.first_named.FirstNamed.{FirstNamed}
use Rattle.ylink_features.specs.declared.versions.Versions.{Versions}
use Rattle.ylink_features.specs.declared.versions.Versions.TheVariants as versions

-- the version that a module states, from what stands below it; its number says nothing of it
abbrev pub stated_in : ℕ → Forest Source → Option spec.YangVersion
stated_in home body = option_map spec.version_named (argument_with yang_version_word body)

-- that of the module of a number, by what each states
abbrev pub stated_at : List (Option YangVersion) → ℕ → spec.YangVersion
stated_at stated home = unwrap_or (option_and_then (option_map version_view) (slice_get stated home)) spec.yang_1

abbrev pub version_in : Versions → ℕ → spec.YangVersion
version_in versions.Core home = spec.yang_1_1
version_in (versions.Stated stated) home = stated_at stated.items home

-- each module of a set has its version
abbrev pub AreVersionsOf : Versions → spec.Language → Forest Source → Type 0
AreVersionsOf v language modules = (home : ℕ) → version_in v home ≡ spec.version_of language modules home

-- that of the first module of a name among some
abbrev pub version_called : spec.Language → Forest Source → Forest Source → Text → Option spec.YangVersion
version_called language modules among name = option_map (spec.version_of language modules) (module_called among name)

-- each name has that of the module that it names
abbrev pub AreVersionsNamed : FirstNamed YangVersion → spec.Language → Forest Source → Type 0
AreVersionsNamed by_name language modules =
    (name : Text) → option_map version_view (named by_name name) ≡ version_called language modules modules name

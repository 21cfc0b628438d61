-- Versions of modules by what they state.
use Rattle.std.proofs.Common.{◌≡◌, ℕ, List, map, Option, Some, None, unwrap_or, option_map, refl, ap, ◌∙◌}
use Rattle.yspec.specs.Forest.{Forest}
use Rattle.yspec.specs.text.Text.{Text}
use Rattle.yspec.specs.linking.Imports.{body_at}
use Rattle.yspec.specs.linking.Keyword.{yang_version_word}
use Rattle.yspec.specs.linking.Source.{Source, argument_with}
use Rattle.yspec_wide.specs.Language.{version_named, version_stated, yang_1}
use Rattle.ylink_conditions.specs.View.{version_view}
use Rattle.ylink_conditions.specs.declared.expression.YangVersion.{YangVersion}
use Rattle.ylink_names.specs.PlaceView.{by_place}
use Rattle.ylink_names.proofs.PlaceLemmas.{found_at_place}
use Rattle.ylink_features.specs.VersionView.{stated_in, stated_at}

or_first : (o : Option Text) → unwrap_or (option_map version_named o) yang_1 ≡ version_stated o
or_first None = refl
or_first (Some t) = refl

pub versions_stated : (modules : Forest Source) (stated : List (Option YangVersion)) → map (option_map version_view) stated ≡ by_place stated_in 0 modules
    → (home : ℕ) → stated_at stated home ≡ version_stated (argument_with yang_version_word (body_at modules home))
versions_stated modules stated are home =
    ap (λ o. unwrap_or o yang_1) (found_at_place (option_map version_view) stated_in (λ n. refl) modules stated are home)
    ∙ or_first (argument_with yang_version_word (body_at modules home))

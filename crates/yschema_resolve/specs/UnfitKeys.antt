-- Keys that are unfit, by the version of their module (RFC 7950, 7.8.2 and 12; RFC 6020, 7.8.2).
use Rattle.std.specs.Prelude.{Bool, false, if◌then◌else◌}
use Rattle.std.specs.Option.{option_map_or}
use Rattle.yspec.specs.linking.Planned.{Planned, Plan, meant_in}
use Rattle.yspec_wide.specs.Language.{Language}
use Rattle.yspec_wide.specs.VersionBreaks.{is_of_yang_1, is_empty_meant, bears_itself}

-- whether a key is unfit
abbrev pub unfit_by : Language → Plan → Planned → Bool
unfit_by language plan p = if is_of_yang_1 language plan.modules p.part.source
    then option_map_or is_empty_meant (meant_in plan p) false else bears_itself language plan p

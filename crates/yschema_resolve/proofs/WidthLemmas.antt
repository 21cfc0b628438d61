-- Unions with too many members, in each language.
use Rattle.std.proofs.Common.{◌≡◌, refl}
use Rattle.yspec.specs.linking.NodeBreaks.{broken_at}
use Rattle.yspec.specs.linking.Planned.{Planned, Plan}
use Rattle.yspec.specs.schema.Breaks.{when}
use Rattle.yspec_wide.specs.Language.{Language, core, rfc}
use Rattle.yspec_wide.specs.Types.{width_breaks}
use Rattle.yschema_types.specs.TypesView.{is_wide_in}

pub widths_are : (language : Language) (plan : Plan) (p : Planned) → width_breaks language plan p ≡ when (is_wide_in language plan p) (broken_at 18 p)
widths_are core plan p = refl
widths_are (rfc wide) plan p = refl

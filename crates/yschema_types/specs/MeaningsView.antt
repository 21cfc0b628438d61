-- What the `type` statements of a set mean, by number.
use Rattle.std.specs.Prelude.{ℕ, Option}
use Rattle.yspec.specs.linking.DerivedTypes.{type_meant}
use Rattle.yspec.specs.linking.TypeStatements.{Meant}
use Rattle.ylink.specs.KeptMeaningsView.{meant_held}
use Rattle.ylink.specs.LinkedView.{view}
use Rattle.yschema_types.specs.declared.meanings.TypeMeanings.{TypeMeanings}
use Rattle.yschema_types.specs.declared.meanings.TypeMeanings.TheVariants.{All, Kept}

abbrev pub means : TypeMeanings → ℕ → Option Meant
means (All linked) = type_meant (view linked.now)
means (Kept meanings) = meant_held meanings.now

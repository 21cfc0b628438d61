-- What `type` statements mean over the names of values that are kept, by number.
use Rattle.std.specs.Prelude.{◌≡◌, ℕ, Option, option_and_then}
use Rattle.yspec.specs.Forest.{Forest}
use Rattle.yspec.specs.linking.Scopes.{statement_at}
use Rattle.yspec.specs.linking.Source.{Source}
use Rattle.yspec.specs.linking.TypeStatements as spec
use Rattle.yspec_wide.specs.Types.{Keeping, meant_of}
use Rattle.ylink.specs.VerdictView.{table_view, verdict_held}
use Rattle.ylink.specs.declared.kept.KeptMeanings.{KeptMeanings}

-- what is held of the `type` statement of a number
abbrev pub meant_held : KeptMeanings → ℕ → Option spec.Meant
meant_held m number = option_and_then spec.meaning_of (verdict_held (table_view m.verdicts.items) number)

-- what it means
abbrev pub type_meant_of : Keeping → Forest Source → ℕ → Option spec.Meant
type_meant_of kept modules number = option_and_then (meant_of kept modules) (statement_at modules number)

-- They are those of a set.
abbrev pub AreMeantOf : Keeping → KeptMeanings → Forest Source → Type 0
AreMeantOf kept m modules = (number : ℕ) → meant_held m number ≡ type_meant_of kept modules number

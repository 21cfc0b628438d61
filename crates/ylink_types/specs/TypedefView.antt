-- What is known of typedefs, as the specification's.
use Rattle.std.specs.Prelude.{◌≡◌, ℕ, List, Option, option_map, option_and_then, slice_get}
use Rattle.std.specs.Global.{Box}
use Rattle.std.specs.Option.{option_map_or}
use Rattle.yspec.specs.Forest.{Forest}
use Rattle.yspec.specs.linking.Source.{Source}
use Rattle.yspec.specs.linking.Scopes.{number_named}
use Rattle.yspec.specs.linking.TypeStatements.{Verdict}
use Rattle.yspec.specs.linking.DerivedTypes as spec
use Rattle.yspec_wide.specs.Types.{Keeping, known_named_of}
use Rattle.ylink_grammar.specs.SourceView.{stated_view}
use Rattle.ylink_names.specs.MeaningView.{meaning_at}
use Rattle.ylink_types.specs.IdentityView as identity
use Rattle.ylink_types.specs.TypeView.{verdict_view}
use Rattle.ylink_types.specs.declared.typedefs.Known.{Known}
use Rattle.ylink_types.specs.declared.typedefs.Typedefs.{Typedefs}

abbrev pub known_view : Known → spec.Known
known_view k = record { verdict = verdict_view k.verdict; default = option_map stated_view k.default }

abbrev pub known_held : Option (Box Known) → spec.Known
known_held known = option_map_or (λ k. known_view k.value) known spec.unknown

-- what a table holds of the typedef of a number
abbrev pub known_at : List (Option (Box Known)) → ℕ → spec.Known
known_at table number = known_held (option_and_then (λ k. k) (slice_get table number))

-- what each statement means, by its number
abbrev pub meanings_in : Typedefs → List (Option ℕ)
meanings_in t = t.meanings.items

-- what is known of the typedef that the statement of a number names
abbrev pub names_in : Typedefs → ℕ → spec.Known
names_in t number = option_map_or (known_at t.known.items) (meaning_at t.meanings.items number) spec.unknown

abbrev pub verdicts_in : Typedefs → ℕ → Verdict
verdicts_in t = spec.verdict_by (names_in t)

-- they are the typedefs of a set, over the names of values that are kept
abbrev pub AreOf : Keeping → Typedefs → Forest Source → Type 0
AreOf kept t modules = (number : ℕ) → names_in t number ≡ known_named_of kept modules number

-- or over all names
abbrev pub IsOf : Typedefs → Forest Source → Type 0
IsOf t modules = (number : ℕ) → names_in t number ≡ spec.known_named modules number

-- they rest on what names of a set mean, and on its identities
pub record RestsOn (kept : Keeping) (t : Typedefs) (modules : Forest Source) : Type 0 where
  pub named : (number : ℕ) → number_named modules number ≡ meaning_at t.meanings.items number
  pub identities : identity.IsOf kept t.identities modules

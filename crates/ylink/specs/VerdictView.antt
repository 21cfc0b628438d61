-- The verdicts on the `type` statements of a set, by number.
use Rattle.std.specs.Prelude.{◌≡◌, ℕ, Bool, List, [], ◌∷◌, Option, Some, None, map, option_map, option_and_then, slice_get, if◌then◌else◌}
use Rattle.std.specs.Global.{Box}
use Rattle.yspec.specs.Forest.{Forest}
use Rattle.yspec.specs.schema.Breaks.{Break}
use Rattle.yspec.specs.linking.Keyword.{type_word}
use Rattle.yspec.specs.linking.Source.{Source, is_source_of}
use Rattle.yspec.specs.linking.Scopes.{Placed, statements_of}
use Rattle.yspec.specs.linking.TypeStatements as spec
use Rattle.yspec.specs.linking.DerivedTypes.{is_own_member, verdict_by, known_named}
use Rattle.yspec_wide.specs.Types.{Keeping, verdicts_of, verdict_on_of, known_named_of}
use Rattle.ylink_types.specs.TypeView.{verdict_view}
use Rattle.ylink_types.specs.declared.types.Verdict.{Verdict}

abbrev pub held_view : Option (Box Verdict) → Option spec.Verdict
held_view = option_map (λ v. verdict_view v.value)

abbrev pub table_view : List (Option (Box Verdict)) → List (Option spec.Verdict)
table_view = map held_view

-- what a table holds of the statement of a number
abbrev pub verdict_held : List (Option spec.Verdict) → ℕ → Option spec.Verdict
verdict_held table number = option_and_then (λ v. v) (slice_get table number)

-- a verdict among those on the members of a union, where it is on one
abbrev pub members_in : Bool → spec.Verdict → List spec.Verdict
members_in in_union v = if in_union then v ∷ [] else []

-- those on the `type` statements of a row, where they are members of a union
abbrev pub members_below : Keeping → Forest Source → (ℕ → spec.Verdict) → Bool → Forest Source → List spec.Verdict
members_below kept modules named in_union row = if in_union then verdicts_of kept modules named row else []

-- the verdict on a statement, where it is a `type` statement; `named` is that on the typedef that the statement of a
-- number names
abbrev pub judged : Forest Source → (ℕ → spec.Verdict) → Placed → Option spec.Verdict
judged modules named p = if is_source_of type_word p.source
    then Some (spec.verdict_on modules named (is_own_member p) p.source p.below) else None

-- the same over the names of values that are kept
abbrev pub judged_of : Keeping → Forest Source → (ℕ → spec.Verdict) → Placed → Option spec.Verdict
judged_of kept modules named p = if is_source_of type_word p.source
    then Some (verdict_on_of kept modules named (is_own_member p) p.source p.below) else None

-- the table holds that on each `type` statement of a set
abbrev pub AreVerdicts : List (Option (Box Verdict)) → Forest Source → Type 0
AreVerdicts table modules = table_view table ≡ map (judged modules (verdict_by (known_named modules))) (statements_of modules)

abbrev pub AreVerdictsOf : Keeping → List (Option (Box Verdict)) → Forest Source → Type 0
AreVerdictsOf kept table modules =
    table_view table ≡ map (judged_of kept modules (verdict_by (known_named_of kept modules))) (statements_of modules)

-- what it tells of a statement
abbrev pub told_by : Source → Option spec.Verdict → List Break
told_by s None = []
told_by s (Some v) = spec.told s v

-- The type `empty` by what it takes, and where YANG 1 lacks what YANG 1.1 says of types.
use Rattle.std.specs.Prelude.{◌≡◌, ⊤, ◌&&◌, ◌||◌, ℕ, Bool, false, List, [], Option, Some, option_and_then, is_some, if◌then◌else◌}
use Rattle.std.specs.Option.{option_map_or}
use Rattle.yspec.specs.Forest.{Forest}
use Rattle.yspec.specs.types.Types.{Val, Shape, single, union, YangType, empty_base}
use Rattle.yspec.specs.types.Order.{same_value}
use Rattle.yspec.specs.linking.Keyword as word
use Rattle.yspec.specs.linking.Scopes.{Placed}
use Rattle.yspec.specs.linking.Source.{Source, is_source_of, first_with}
use Rattle.yspec.specs.linking.TypeStatements as spec
use Rattle.yspec.specs.linking.DerivedTypes.{is_member}
use Rattle.yspec.specs.schema.Breaks.{Break, broken, when}
use Rattle.yspec_wide.specs.Language.{Language}
use Rattle.yspec_wide.specs.VersionBreaks.{is_of_yang_1, is_empty_meant}
use Rattle.ylink.specs.VerdictView.{verdict_held}

-- ---- `empty` bears no restriction

abbrev pub IsBareShape : Shape → Type 0
IsBareShape (single s) = s.base ≡ empty_base → s.limits ≡ []
IsBareShape (union members) = ⊤

abbrev pub IsBare : YangType → Type 0
IsBare type = IsBareShape type.shape

abbrev pub IsBareMeant : spec.Meant → Type 0
IsBareMeant (spec.own type) = IsBare type
IsBareMeant (spec.of_target home steps required) = ⊤
IsBareMeant (spec.of_union members) = ⊤

-- what statements mean, by the verdicts on them
abbrev pub meant_held : List (Option spec.Verdict) → ℕ → Option spec.Meant
meant_held table number = option_and_then spec.meaning_of (verdict_held table number)

abbrev pub AreBare : List (Option spec.Verdict) → Type 0
AreBare table = (number : ℕ) (m : spec.Meant) → meant_held table number ≡ Some m → IsBareMeant m

-- ---- what types take

abbrev pub are_alike : Option Val → Option Val → Bool
are_alike a b = option_map_or (λ v. option_map_or (same_value v) b false) a false

-- ---- C10 in YANG 1

-- by what a `type` statement means, a member of a union or not
abbrev pub is_wrong_as : Bool → Option spec.Meant → Forest Source → Bool
is_wrong_as in_union meant below = is_some (first_with word.require_instance_word below)
    || (in_union && option_map_or is_empty_meant meant false)

abbrev pub is_wrong_by : Language → Forest Source → List (Option spec.Verdict) → Bool → Source → Forest Source → Bool
is_wrong_by language modules table in_union s below = is_source_of word.type_word s
    && (is_of_yang_1 language modules s && is_wrong_as in_union (meant_held table s.number) below)

abbrev pub wrong_break : Language → Forest Source → List (Option spec.Verdict) → Placed → List Break
wrong_break language modules table p = when (is_wrong_by language modules table (is_member p.ancestors) p.source p.below)
    (broken 10 p.source.home p.source.statement.line)

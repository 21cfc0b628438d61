-- What `type` statements mean, as the specification's.
use Rattle.std.specs.Prelude.{Bool, true, false, map, nat_lt, if◌then◌else◌}
use Rattle.yspec.specs.types.Types.{YangType}
use Rattle.yspec.specs.types.Restriction.{member_count}
use Rattle.yspec.specs.linking.TypeStatements as spec
use Rattle.ylink_types.specs.declared.types.Member.{Member}
use Rattle.ylink_types.specs.declared.types.Member.TheVariants as members
use Rattle.ylink_types.specs.declared.types.Meant.{Meant}
use Rattle.ylink_types.specs.declared.types.Meant.TheVariants as meants
use Rattle.ylink_types.specs.declared.types.Verdict.{Verdict}
use Rattle.ylink_types.specs.declared.types.Verdict.TheVariants as verdicts
use Rattle.ylink_arguments.specs.NameView.{names_view}

abbrev pub member_view : Member → spec.Member
member_view (members.Own type) = spec.own_member type
member_view (members.Leafref home steps required) = spec.leafref_member home (names_view steps.items) required

abbrev pub meant_view : Meant → spec.Meant
meant_view (meants.Own type) = spec.own type
meant_view (meants.OfTarget home steps required) = spec.of_target home (names_view steps.items) required
meant_view (meants.OfUnion others) = spec.of_union (map member_view others.items)

abbrev pub verdict_view : Verdict → spec.Verdict
verdict_view (verdicts.Means meant) = spec.means (meant_view meant)
verdict_view verdicts.Wrong = spec.wrong
verdict_view verdicts.TooLarge = spec.too_large
verdict_view verdicts.Unjudged = spec.unjudged

-- whether it is a type that refers to no other node
abbrev pub is_own : spec.Verdict → Bool
is_own (spec.means (spec.own type)) = true
is_own _ = false

-- on a type that is made as a union
abbrev pub judged_union : YangType → spec.Verdict
judged_union type = if nat_lt spec.member_limit (member_count type) then spec.too_large else spec.means (spec.own type)

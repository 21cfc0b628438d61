use Rattle.std.proofs.Common.{◌≡◌, length, drop}
use Rattle.std.specs.Prelude.{nat_lt}
use Rattle.yspec.specs.types.Restriction.{all_members}
use Rattle.yspec.specs.linking.Planned.{is_too_wide}
use Rattle.yschema_types.proofs.making.are_too_many.Given as goal

abbrev pub invariant-loop-value_type : goal.invariant-loop-value_type
invariant-loop-value_type l = nat_lt l.left (length (all_members (drop l.value_type-index l.types))) ≡ is_too_wide l.types

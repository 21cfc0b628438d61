use Rattle.std.proofs.Common.{◌≡◌, map, drop}
use Rattle.yspec.specs.linking.Planned as spec
use Rattle.ylink.specs.TypeView.{member_view}
use Rattle.ylink_arguments.proofs.ListLemmas.{with_more}
use Rattle.yschema_plan.specs.PlanView.{view}
use Rattle.yschema_types.specs.MadeTypes.{types_held}
use Rattle.yschema_types.specs.MadeView.{rows_view}
use Rattle.yschema_types.proofs.making.member_types.Given as goal

abbrev pub invariant-loop-member : goal.invariant-loop-member
invariant-loop-member l = (p : spec.Planned) → l.owner ≡ p.part.owner
    → with_more l.types.items (spec.member_types (view l.plan) (types_held (rows_view l.made)) p (map member_view (drop l.member-index l.members)))
    ≡ spec.member_types (view l.plan) (types_held (rows_view l.made)) p (map member_view l.members)

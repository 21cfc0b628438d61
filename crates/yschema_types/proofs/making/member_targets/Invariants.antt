use Rattle.std.proofs.Common.{◌≡◌, ◌++◌, map, drop}
use Rattle.std.specs.List.{flat_map}
use Rattle.yspec.specs.linking.Planned as spec
use Rattle.ylink.specs.TypeView.{member_view}
use Rattle.yschema_model.specs.Layout.{targets_view}
use Rattle.yschema_plan.specs.PlanView.{view}
use Rattle.yschema_types.specs.MadeTypes.{types_held}
use Rattle.yschema_types.specs.MadeView.{rows_view}
use Rattle.yschema_types.proofs.making.member_targets.Given as goal

abbrev pub invariant-loop-member : goal.invariant-loop-member
invariant-loop-member l = (p : spec.Planned) → l.owner ≡ p.part.owner
    → targets_view l.targets.items ++ flat_map (spec.targets_in (view l.plan) (types_held (rows_view l.made)) p) (map member_view (drop l.member-index l.members))
    ≡ flat_map (spec.targets_in (view l.plan) (types_held (rows_view l.made)) p) (map member_view l.members)

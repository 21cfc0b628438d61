use Rattle.std.proofs.Common.{◌≡◌, drop, None}
use Rattle.std.specs.Prelude.{slice_get, unwrap_or}
use Rattle.yschema_model.specs.Layout.{targets_view}
use Rattle.yschema_model.proofs.node.MemberTargets.found.Given as goal

-- it is among those that are left
abbrev pub invariant-loop-members : goal.invariant-loop-members
invariant-loop-members l =
    unwrap_or (slice_get (targets_view (drop l.members-index l.all)) l.left) None ≡ unwrap_or (slice_get (targets_view l.all) l.number) None

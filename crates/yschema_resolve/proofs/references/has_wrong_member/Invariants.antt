use Rattle.std.proofs.Common.{◌≡◌, map, drop}
use Rattle.std.specs.List.{list_any}
use Rattle.yspec.specs.linking.NodeBreaks.{is_wrong_member}
use Rattle.ylink.specs.TypeView.{member_view}
use Rattle.yschema_plan.specs.NodesView.{node_view}
use Rattle.yschema_plan.specs.PlanView.{view}
use Rattle.yschema_resolve.proofs.references.has_wrong_member.Given as goal

abbrev pub invariant-loop-member : goal.invariant-loop-member
invariant-loop-member l = list_any (is_wrong_member (view l.plan) (node_view l.node)) (map member_view (drop l.member-index l.members))
    ≡ list_any (is_wrong_member (view l.plan) (node_view l.node)) (map member_view l.members)

use Rattle.std.proofs.Common.{arith}
use Rattle.yschema_plan.specs.NodesView.{node_view}
use Rattle.yschema_plan.specs.PlanView.{view}
use Rattle.yschema_resolve.proofs.MemberLemmas.{wrong_here, right_so_far}
use Rattle.yschema_resolve.proofs.references.has_wrong_member.Goals as goal

pub returns-then-is_wrong_member : goal.returns-then-is_wrong_member
returns-then-is_wrong_member c =
    wrong_here (view c.args.plan.now) (node_view c.args.node) c.args.members.now c.loop-member.member-index c.member-item.result (omega arith) c.member-item.is
    c.is_wrong_member.result c.is_wrong_member.ensures _ c.if-is_wrong_member.true c.loop-member.invariant

pub loop-member-preserved : goal.loop-member-preserved
loop-member-preserved c =
    right_so_far (view c.args.plan.now) (node_view c.args.node) c.args.members.now c.loop-member.member-index c.member-item.result (omega arith) c.member-item.is
    c.is_wrong_member.result c.is_wrong_member.ensures _ c.if-is_wrong_member.false c.loop-member.invariant

use Rattle.std.proofs.Common.{ap₂}
use Rattle.ybase_index.specs.declared.keys.IndexedNode.{IndexedNode}
use Rattle.yschema_plan.specs.PlannedView.{planned_view}
use Rattle.yschema_plan.specs.Finding.{indexed}
use Rattle.yschema_plan.proofs.finding.indexed_node.Goals as goal

pub returns : goal.returns
returns c =
    let node : IndexedNode = indexed (planned_view c.args.number c.args.planned.now) in
    ap₂ (λ m is_data. record node { «module» = m; is_data = is_data }) c.owner.ensures (c.is_data.ensures c.args.number)

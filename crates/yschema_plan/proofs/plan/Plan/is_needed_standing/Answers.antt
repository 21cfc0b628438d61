use Rattle.std.proofs.Common.{ap, ◌∙◌}
use Rattle.ybase_preorder.specs.View.{forest_in}
use Rattle.yschema_plan.specs.Needs.{is_told, must_stand, stands_in}
use Rattle.yschema_plan.specs.NodesView.{node_view}
use Rattle.yschema_plan.proofs.NeedLemmas.{told_at}
use Rattle.yschema_plan.proofs.plan.Plan.is_needed_standing.Goals as goal

pub returns : goal.returns
returns c =
    let stands = stands_in c.args.standing.now in
    let n = c.args.node.number in
    c.must_stand.ensures ∙ ap (must_stand stands (node_view c.args.node))
    (ap (λ told. is_told told n) c.requires ∙ told_at stands (forest_in c.args.self.now.table) n)

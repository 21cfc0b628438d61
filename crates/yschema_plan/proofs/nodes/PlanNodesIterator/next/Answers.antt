use Rattle.std.proofs.Common.{◌<◌, ◌≤◌, ◌^◌, suc, length, sym, ap, ◌∙◌, subst, vec_len, arith}
use Rattle.std.specs.Prelude.{option_map}
use Rattle.ybase_preorder.specs.View.{slots_in}
use Rattle.yschema_plan.specs.NodesView.{TakesNode, node_view}
use Rattle.yschema_plan.proofs.NodeLemmas.{first_from, none_from, is_within}
use Rattle.yschema_plan.proofs.nodes.PlanNodesIterator.next.Goals as goal

pub returns-in_err-node-clause-steps : goal.returns-in_err-node-clause-steps
returns-in_err-node-clause-steps c =
    let nodes = c.args.self.now in
    let nothing = none_from nodes.plan.now nodes.number (ap (option_map node_view) (sym c.in_err-node.was) ∙ c.at.ensures) in
    subst (λ given. TakesNode nodes given nodes) (sym c.from_residual.ensures) (nothing, nothing)

pub overflow_add-self : goal.overflow_add-self
overflow_add-self c =
    let nodes = c.args.self.now in
    let plan = nodes.plan.now in
    let here : suc nodes.number ≤ length (slots_in plan.table) = is_within plan nodes.number (node_view c.in_ok-node.node) (ap (option_map node_view) (sym c.in_ok-node.was) ∙ c.at.ensures) in
    let bound : vec_len plan.table.slots < 2 ^ 32 = plan.table.numbered in
    omega (arith, here, bound)

pub invariant_of-self : goal.invariant_of-self
invariant_of-self c =
    let nodes = c.args.self.now in
    let plan = nodes.plan.now in
    let here : suc nodes.number ≤ length (slots_in plan.table) = is_within plan nodes.number (node_view c.in_ok-node.node) (ap (option_map node_view) (sym c.in_ok-node.was) ∙ c.at.ensures) in
    record { numbered = omega (arith, here) }

pub returns-clause-steps : goal.returns-clause-steps
returns-clause-steps c =
    let nodes = c.args.self.now in
    first_from nodes.plan.now nodes.number (node_view c.in_ok-node.node) (ap (option_map node_view) (sym c.in_ok-node.was) ∙ c.at.ensures)

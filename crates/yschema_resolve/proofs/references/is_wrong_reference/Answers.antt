use Rattle.std.proofs.Common.{◌&&◌, false, sym, ap, ◌∙◌}
use Rattle.std.specs.Option.{option_map_or}
use Rattle.yspec.specs.linking.NodeBreaks as breaks
use Rattle.yspec.specs.linking.Planned.{meant_in}
use Rattle.yschema_plan.specs.NodesView.{node_view}
use Rattle.yschema_plan.specs.PlanView.{view}
use Rattle.yschema_resolve.proofs.references.is_wrong_reference.Goals as goal

pub returns-then-is_leaf_or_leaf_list : goal.returns-then-is_leaf_or_leaf_list
returns-then-is_leaf_or_leaf_list c =
    let p = node_view c.args.node in
    let told = option_map_or (breaks.is_wrong_reference (view c.args.plan.now) p) (meant_in (view c.args.plan.now) p) false in
    c.is_wrong_stated.ensures ∙ sym (ap (λ b. b && told) (sym (c.is_leaf_or_leaf_list.ensures c.args.node.number) ∙ c.if-is_leaf_or_leaf_list.true))

pub returns-else-is_leaf_or_leaf_list : goal.returns-else-is_leaf_or_leaf_list
returns-else-is_leaf_or_leaf_list c =
    let p = node_view c.args.node in
    let told = option_map_or (breaks.is_wrong_reference (view c.args.plan.now) p) (meant_in (view c.args.plan.now) p) false in
    sym (ap (λ b. b && told) (sym (c.is_leaf_or_leaf_list.ensures c.args.node.number) ∙ c.if-is_leaf_or_leaf_list.false))

use Rattle.std.proofs.Common.{◌&&◌, sym, ap, ◌∙◌}
use Rattle.yspec_wide.specs.Types.{is_wide_over, standing_names}
use Rattle.yschema_plan.specs.NodesView.{node_view}
use Rattle.yschema_resolve.proofs.widths.is_wide_leaf.Goals as goal

pub returns-then-is_leaf_or_leaf_list : goal.returns-then-is_leaf_or_leaf_list
returns-then-is_leaf_or_leaf_list c = λ language plan typed here.
    let p = node_view c.args.node in
    let wide = is_wide_over (standing_names language plan.modules) plan p in
    c.is_wide.ensures language plan p typed here
    ∙ sym (ap (λ b. b && wide) (sym (c.is_leaf_or_leaf_list.ensures c.args.node.number) ∙ c.if-is_leaf_or_leaf_list.true))

pub returns-else-is_leaf_or_leaf_list : goal.returns-else-is_leaf_or_leaf_list
returns-else-is_leaf_or_leaf_list c = λ language plan typed here.
    let p = node_view c.args.node in
    let wide = is_wide_over (standing_names language plan.modules) plan p in
    sym (ap (λ b. b && wide) (sym (c.is_leaf_or_leaf_list.ensures c.args.node.number) ∙ c.if-is_leaf_or_leaf_list.false))

use Rattle.std.proofs.Common.{◌≡◌, IfOk, Some, map, option_map, subst, ap, ◌∙◌}
use Rattle.std.specs.List.{filter_map}
use Rattle.yspec.specs.linking.Planned.{child_called}
use Rattle.yspec.specs.linking.SchemaNodes.{key_names, number_in}
use Rattle.yschema_plan.specs.NodesView.{node_view}
use Rattle.yschema_plan.specs.PlanView.{view}
use Rattle.yschema_resolve.proofs.TupleLemmas.{found_among}
use Rattle.yschema_resolve.proofs.tuples.key_numbers.Goals as goal

pub returns : goal.returns
returns c =
    let plan = view c.args.plan.now in
    let p = node_view c.args.list in
    subst (λ whole. IfOk c.numbers_found.result (λ numbers. numbers.items ≡ whole))
    (ap (λ nodes. map number_in (filter_map (option_map node_view) nodes)) c.deref.ensures.value
    ∙ ap (map number_in) (found_among (option_map node_view) (child_called plan (Some p.number)) c.in_ok-children.children.items (key_names plan p) c.in_ok-children.ensures))
    c.numbers_found.ensures

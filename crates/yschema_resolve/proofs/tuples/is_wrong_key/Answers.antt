use Rattle.std.proofs.Common.{◌≡◌, IfOk, Some, false, map, option_map, subst, sym, ap, ◌∙◌}
use Rattle.std.specs.List.{filter_map, list_all}
use Rattle.std.specs.Option.{option_map_or}
use Rattle.yspec.specs.linking.NodeBreaks.{has_twice, is_key_leaf}
use Rattle.yspec.specs.linking.Planned.{child_called}
use Rattle.yspec.specs.linking.SchemaNodes.{key_names, number_in}
use Rattle.yschema_plan.specs.NodesView.{node_view}
use Rattle.yschema_plan.specs.PlanView.{view}
use Rattle.yschema_resolve.proofs.TupleLemmas.{all_among, found_among, wrong_leafs, right_leafs}
use Rattle.yschema_resolve.proofs.tuples.is_wrong_key.Goals as goal

pub returns-then-not-are_key_leafs : goal.returns-then-not-are_key_leafs
returns-then-not-are_key_leafs c =
    let plan = view c.args.plan.now in
    let p = node_view c.args.list in
    wrong_leafs plan p (sym (c.are_key_leafs.ensures
    ∙ (ap (λ nodes. list_all (λ child. option_map_or (is_key_leaf p) child false) (map (option_map node_view) nodes)) c.deref.ensures.value
    ∙ all_among (option_map node_view) (child_called plan (Some p.number)) (is_key_leaf p) c.in_ok-children.children.items (key_names plan p) c.in_ok-children.ensures))
    ∙ c.if-not-are_key_leafs.true)

pub returns : goal.returns
returns c =
    let plan = view c.args.plan.now in
    let p = node_view c.args.list in
    let numbers = c.deref-3.ensures.value ∙ (c.in_ok-numbers.ensures
    ∙ (ap (λ nodes. map number_in (filter_map (option_map node_view) nodes)) c.deref-2.ensures.value
    ∙ ap (map number_in) (found_among (option_map node_view) (child_called plan (Some p.number)) c.in_ok-children.children.items (key_names plan p) c.in_ok-children.ensures))) in
    subst (λ whole. IfOk c.has_twice.result (λ twice. twice ≡ whole))
    (ap has_twice numbers ∙ right_leafs plan p (sym (c.are_key_leafs.ensures
    ∙ (ap (λ nodes. list_all (λ child. option_map_or (is_key_leaf p) child false) (map (option_map node_view) nodes)) c.deref.ensures.value
    ∙ all_among (option_map node_view) (child_called plan (Some p.number)) (is_key_leaf p) c.in_ok-children.children.items (key_names plan p) c.in_ok-children.ensures))
    ∙ c.if-not-are_key_leafs.false)) c.has_twice.ensures

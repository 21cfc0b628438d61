use Rattle.std.proofs.Common.{◌+◌, ◌++◌, Some, List, map, drop, sym, ap, ◌∙◌}
use Rattle.std.specs.Prelude.{option_map}
use Rattle.std.proofs.lemmas.List.{at_drop_more, map-append}
use Rattle.yspec.specs.linking.Prefixes.{node_name}
use Rattle.yspec.specs.linking.Planned as spec
use Rattle.ylink_arguments.specs.NameView.{names_view}
use Rattle.ylink_arguments.specs.declared.name.Name.{Name}
use Rattle.yschema_plan.specs.NodesView.{node_view}
use Rattle.yschema_plan.specs.PlanView.{view}
use Rattle.yschema_resolve.proofs.TupleLemmas.{one_more}
use Rattle.yschema_resolve.proofs.tuples.way.Goals as goal

pub loop-name-preserved : goal.loop-name-preserved
loop-name-preserved c =
    let p = view c.args.plan.now in
    let names = c.args.names.now in
    let i = c.loop-name.name-index in
    let above = Some c.loop-name.parent in
    let so_far = map node_view c.loop-name.nodes.items in
    let named = node_name p.modules c.args.home c.args.owner in
    sym (at_drop_more (λ (ns : List Name). option_map (λ ps. so_far ++ ps) (spec.way p above (map named (names_view ns)))) names i _ c.loop-name-test.true
    ∙ one_more p above _ (map named (names_view (drop (i + 1) names))) (node_view c.in-Some.node) so_far (map node_view c.push.new.self.items)
    (ap (option_map node_view) (sym c.in-Some.is) ∙ (c.child_called.ensures ∙ ap (spec.child_called p above) c.node_name-name.ensures))
    (ap (map node_view) c.in_ok-push-in-Some.ensures.items ∙ map-append node_view c.loop-name.nodes.items _))
    ∙ c.loop-name.invariant

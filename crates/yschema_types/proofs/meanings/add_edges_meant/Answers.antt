use Rattle.std.proofs.Common.{◌++◌, map, sym, ap, ◌∙◌}
use Rattle.std.specs.Prelude.{option_to_list}
use Rattle.std.specs.List.{filter_map}
use Rattle.std.proofs.lemmas.List.{append-nil}
use Rattle.yspec.specs.linking.Planned as spec
use Rattle.ybase_graph.specs.Edges.{edge_view}
use Rattle.ylink_arguments.specs.NameView.{names_view}
use Rattle.ylink.specs.TypeView.{meant_view, member_view}
use Rattle.yschema_plan.specs.PlanView.{view}
use Rattle.yschema_types.specs.ReferenceEdges.{all_targets, edge_from}
use Rattle.yschema_types.proofs.meanings.add_edges_meant.Goals as goal

pub returns-in-Own : goal.returns-in-Own
returns-in-Own c = λ p owner.
    let old = map edge_view c.args.edges.now.items in
    sym (append-nil old) ∙ ap (λ m. old ++ map (edge_from c.args.source) (all_targets (view c.args.plan.now) p m)) (ap meant_view (sym c.in-Own.is))

pub returns-in_ok-add_edge-in-OfTarget : goal.returns-in_ok-add_edge-in-OfTarget
returns-in_ok-add_edge-in-OfTarget c = λ p owner.
    let plan = view c.args.plan.now in
    let old = map edge_view c.args.edges.now.items in
    c.in_ok-add_edge-in-OfTarget.ensures
    ∙ (ap (λ o. old ++ map (edge_from c.args.source) (option_to_list o)) (c.path_target-target.ensures p owner
    ∙ ap (λ steps. spec.path_target plan p c.in-OfTarget.home (names_view steps)) c.as_slice.ensures.value)
    ∙ ap (λ m. old ++ map (edge_from c.args.source) (all_targets plan p m)) (ap meant_view (sym c.in-OfTarget.is)))

pub returns-in_ok-add_member_edges-in-OfUnion : goal.returns-in_ok-add_member_edges-in-OfUnion
returns-in_ok-add_member_edges-in-OfUnion c = λ p owner.
    let plan = view c.args.plan.now in
    let old = map edge_view c.args.edges.now.items in
    c.in_ok-add_member_edges-in-OfUnion.ensures p owner
    ∙ (ap (λ members. old ++ map (edge_from c.args.source) (filter_map (spec.member_target plan p) (map member_view members))) c.as_slice-in-OfUnion.ensures.value
    ∙ ap (λ m. old ++ map (edge_from c.args.source) (all_targets plan p m)) (ap meant_view (sym c.in-OfUnion.is)))

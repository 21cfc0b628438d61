use Rattle.std.proofs.Common.{◌++◌, map, sym, ap, ◌∙◌, arith}
use Rattle.std.specs.Prelude.{option_to_list}
use Rattle.std.specs.List.{filter_map}
use Rattle.std.proofs.lemmas.List.{append-nil, at_drop_all}
use Rattle.yspec.specs.linking.Planned as spec
use Rattle.ybase_graph.specs.Edges.{edge_view}
use Rattle.ylink.specs.TypeView.{member_view}
use Rattle.yschema_plan.specs.PlanView.{view}
use Rattle.yschema_types.specs.ReferenceEdges.{edge_from}
use Rattle.yschema_types.proofs.MakingLemmas.{next_edge}
use Rattle.yschema_types.proofs.meanings.add_member_edges.Goals as goal

pub loop-member-preserved : goal.loop-member-preserved
loop-member-preserved c = λ p owner.
    let plan = view c.args.plan.now in
    let old = map edge_view c.loop-member.edges.items in
    next_edge member_view (spec.member_target plan p) c.args.source c.args.members.now c.loop-member.member-index c.member-item.result
    old (map edge_view c.add_edge.new.edges.items) _ (omega arith) c.member-item.is
    (c.in_ok-add_edge.ensures ∙ ap (λ o. old ++ map (edge_from c.args.source) (option_to_list o)) (c.member_target-target.ensures p owner))
    (c.loop-member.invariant p owner)

pub returns : goal.returns
returns c = λ p owner.
    let plan = view c.args.plan.now in
    let found = map edge_view c.loop-member.edges.items in
    sym (append-nil found)
    ∙ (sym (at_drop_all (λ l. found ++ map (edge_from c.args.source) (filter_map (spec.member_target plan p) (map member_view l)))
    c.args.members.now c.loop-member.member-index (omega (arith, c.loop-member-test.false))) ∙ c.loop-member.invariant p owner)

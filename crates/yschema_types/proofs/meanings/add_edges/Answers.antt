use Rattle.std.proofs.Common.{◌++◌, map, option_map, sym, ap, ◌∙◌}
use Rattle.std.proofs.lemmas.List.{append-nil}
use Rattle.ybase_graph.specs.Edges.{edge_view}
use Rattle.ylink.specs.TypeView.{meant_view}
use Rattle.yschema_plan.specs.PlanView.{view}
use Rattle.yschema_types.specs.ReferenceEdges.{edge_from, nodes_meant}
use Rattle.yschema_types.proofs.meanings.add_edges.Goals as goal

pub returns-in_ok-add_edges_meant-in-Some : goal.returns-in_ok-add_edges_meant-in-Some
returns-in_ok-add_edges_meant-in-Some c = λ p owner.
    let old = map edge_view c.args.edges.now.items in
    c.in_ok-add_edges_meant-in-Some.ensures p owner
    ∙ ap (λ o. old ++ map (edge_from c.args.source) (nodes_meant (view c.args.plan.now) p (option_map (λ m. meant_view m.now) o))) (sym c.in-Some.is)

pub returns-in-None : goal.returns-in-None
returns-in-None c = λ p owner.
    let old = map edge_view c.args.edges.now.items in
    sym (append-nil old)
    ∙ ap (λ o. old ++ map (edge_from c.args.source) (nodes_meant (view c.args.plan.now) p (option_map (λ m. meant_view m.now) o))) (sym c.in-None.is)

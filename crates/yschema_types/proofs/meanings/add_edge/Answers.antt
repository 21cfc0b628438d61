use Rattle.std.proofs.Common.{◌++◌, map, option_map, sym, ap, ◌∙◌}
use Rattle.std.specs.Prelude.{option_to_list}
use Rattle.std.proofs.lemmas.List.{append-nil, map-append}
use Rattle.ybase_graph.specs.Edges.{edge_view}
use Rattle.yschema_plan.specs.NodesView.{node_view}
use Rattle.yschema_types.specs.ReferenceEdges.{edge_from}
use Rattle.yschema_types.proofs.meanings.add_edge.Goals as goal

pub returns-in_ok-push-in-Some : goal.returns-in_ok-push-in-Some
returns-in_ok-push-in-Some c =
    let old = map edge_view c.args.edges.now.items in
    ap (map edge_view) c.in_ok-push-in-Some.ensures.items
    ∙ (map-append edge_view c.args.edges.now.items _
    ∙ ap (λ o. old ++ map (edge_from c.args.source) (option_to_list (option_map node_view o))) (sym c.in-Some.is))

pub returns-in-None : goal.returns-in-None
returns-in-None c =
    let old = map edge_view c.args.edges.now.items in
    sym (append-nil old) ∙ ap (λ o. old ++ map (edge_from c.args.source) (option_to_list (option_map node_view o))) (sym c.in-None.is)

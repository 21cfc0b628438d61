use Rattle.std.proofs.Common.{◌++◌, map, sym, ap, ◌∙◌}
use Rattle.std.specs.Prelude.{option_map, option_and_then}
use Rattle.std.specs.List.{flat_map}
use Rattle.std.proofs.lemmas.List.{append-nil}
use Rattle.yspec.specs.linking.Planned.{nodes_of, target_meant}
use Rattle.yspec.specs.linking.SchemaNodes.{number_in}
use Rattle.ybase_graph.specs.Edges.{edge_view}
use Rattle.ylink.specs.TypeView.{meant_view}
use Rattle.yschema_plan.specs.NodesView.{left, node_view}
use Rattle.yschema_plan.specs.PlanView.{view}
use Rattle.yschema_types.specs.MeaningsView.{means}
use Rattle.yschema_types.specs.MeantNodes.{meant_as, target_number}
use Rattle.yschema_types.specs.ReferenceEdges.{edge_from, edges_by, nodes_meant}
use Rattle.yschema_types.proofs.CollectLemmas.{collected, collected_as}
use Rattle.yschema_types.proofs.MakingLemmas.{next_edges}
use Rattle.yschema_types.proofs.TypeLemmas.{edges_within}
use Rattle.yschema_types.proofs.meanings.meanings_of.Goals as goal

pub loop-node-preserved : goal.loop-node-preserved
loop-node-preserved c =
    let p = view c.args.plan.now in
    let meant = meant_as (means c.args.types) in
    let node = c.in-Some.node in
    let before = left c.loop-node.node-iterator in
    let rest = left c.next.new.self in
    let means_so = c.meaning_of-meaning.ensures node.number in
    record {
      meant = collected_as meant (option_map (λ m. meant_view m.now)) c.loop-node.meant.items c.push-in-loop-node.new.self.items
          (node_view node) c.meaning_of-meaning.result before rest (nodes_of p) c.in-Some.ensures.steps c.in_ok-push-2.ensures.items
          means_so c.loop-node.invariant.meant;
      targets = collected (target_number p meant) c.loop-node.targets.items c.push.new.self.items
          (node_view node) c.target_of.result before rest (nodes_of p) c.in-Some.ensures.steps c.in_ok-push.ensures.items
          (c.target_of.ensures node.number ∙ ap (λ o. option_map number_in (option_and_then (target_meant p (node_view node)) o)) means_so)
          c.loop-node.invariant.targets;
      edges = next_edges (λ q. edges_by p q (meant q)) (map edge_view c.loop-node.edges.items) (map edge_view c.add_edges.new.edges.items) (node_view node) _ before rest _
          c.in-Some.ensures.steps (c.in_ok-add_edges.ensures (node_view node) c.owner-owner.ensures)
          (ap (λ o. map (edge_from node.number) (nodes_meant p (node_view node) o)) means_so) c.loop-node.invariant.edges;
    }

pub returns-clause-edges : goal.returns-clause-edges
returns-clause-edges c =
    let p = view c.args.plan.now in
    let meant = meant_as (means c.args.types) in
    let found = map edge_view c.loop-node.edges.items in
    sym (append-nil found) ∙ (ap (λ rest. found ++ flat_map (λ q. edges_by p q (meant q)) rest) (sym c.in-None.ensures.steps.0) ∙ c.loop-node.invariant.edges)

pub returns-clause-within : goal.returns-clause-within
returns-clause-within c =
    let p = view c.args.plan.now in
    let meant = meant_as (means c.args.types) in
    let found = map edge_view c.loop-node.edges.items in
    edges_within c.args.plan.now meant c.loop-node.edges.items
    (sym (append-nil found) ∙ (ap (λ rest. found ++ flat_map (λ q. edges_by p q (meant q)) rest) (sym c.in-None.ensures.steps.0) ∙ c.loop-node.invariant.edges))

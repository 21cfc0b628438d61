use Rattle.std.proofs.Common.{◌≡◌, ap, ◌∙◌, map}
use Rattle.std.specs.List.{filter_map}
use Rattle.std.proofs.lemmas.Result.{IfOk-weaker}
use Rattle.yspec.specs.linking.Circles.{definition_edges}
use Rattle.ybase_graph.specs.Edges.{edge_view}
use Rattle.ylink_names.proofs.EdgeLemmas.{all_present}
use Rattle.ylink_names.proofs.references.definition_edges_of.Goals as goal

pub returns : goal.returns
returns c modules held meant =
    IfOk-weaker c.present.result (λ made. made.items ≡ filter_map (λ e. e) c.deref.result.now) (λ made. map edge_view made.items ≡ definition_edges modules)
    (λ made is. all_present modules c.args.holders.now c.args.meanings.now c.in_ok-edges.edges.items made.items held meant c.in_ok-edges.ensures
    (is ∙ ap (filter_map (λ e. e)) c.deref.ensures.value)) c.present.ensures

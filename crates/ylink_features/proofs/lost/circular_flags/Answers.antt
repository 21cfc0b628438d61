use Rattle.std.proofs.Common.{◌≡◌, map, ap, ap₂, ◌∙◌}
use Rattle.std.proofs.lemmas.Result.{IfOk-weaker}
use Rattle.yspec.specs.linking.Graph.{is_on_circle}
use Rattle.ybase_graph.specs.Edges.{edge_view}
use Rattle.ylink_features.specs.AskedView.{edges_in}
use Rattle.ylink_features.proofs.LostLemmas.{flags_seen}
use Rattle.ylink_features.proofs.lost.circular_flags.Goals as goal

pub returns : goal.returns
returns c =
    let edges = c.deref.result.now in
    let same : map edge_view edges ≡ edges_in c.args.conditions.now =
    ap (map edge_view) (c.deref.ensures.value ∙ c.in_ok-edges.ensures) in
    IfOk-weaker c.on_circles.result _ _ (λ flags is. is ∙ (flags_seen (is_on_circle (map edge_view edges)) edges
    ∙ ap₂ (λ all es. map (is_on_circle all) es) same same)) c.on_circles.ensures

use Rattle.std.proofs.Common.{List, ℕ, ◌==◌, get_or, ap, sym, subst, refl, ◌∙◌}
use Rattle.ybase_graph.specs.declared.circles.Edge.{Edge}
use Rattle.ybase_graph.specs.Search.{Rows, TargetsWithin, IsRanking}
use Rattle.ybase_graph.proofs.EdgeLemmas.{rows_within, one_more}
use Rattle.ybase_graph.proofs.circles.on_circles.Goals as goal

pub ranks-requires : goal.ranks-requires
ranks-requires c = record {
  within = subst (λ (x : Rows). TargetsWithin x) (sym c.as_slice.ensures.value)
      (rows_within c.node_count.result c.args.edges.now c.node_count.ensures c.in_ok-rows.rows.items c.in_ok-rows.ensures);
}

pub loop-edge-preserved : goal.loop-edge-preserved
loop-edge-preserved c =
    let d : Edge = record { source = 0; target = 0 } in
    let e = get_or c.args.edges.now c.loop-edge.edge-index d in
    one_more c.node_count.result c.args.edges.now c.node_count.ensures c.in_ok-rows.rows.items c.in_ok-rows.ensures c.in_ok-ranks.ranks.items
    (subst (λ (x : Rows). IsRanking x c.in_ok-ranks.ranks.items) c.as_slice.ensures.value c.in_ok-ranks.ensures)
    c.loop-edge.edge-index e d c.loop-edge.flags.items c.push.new.self.items c.has_one_rank.result c.loop-edge-test.true refl
    c.loop-edge.invariant c.in_ok-push.ensures.items
    (c.has_one_rank.ensures ∙ ap (λ (x : List ℕ). get_or x e.source 0 == get_or x e.target 0) c.as_slice-in-loop-edge.ensures.value)

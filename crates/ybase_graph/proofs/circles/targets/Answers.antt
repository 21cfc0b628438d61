use Rattle.std.proofs.Common.{◌<◌, length, get_or, refl, arith}
use Rattle.ybase_graph.specs.declared.circles.Edge.{Edge}
use Rattle.ybase_graph.proofs.EdgeLemmas.{none_made, one_added}
use Rattle.ybase_graph.proofs.circles.targets.Goals as goal

pub loop-edge-init : goal.loop-edge-init
loop-edge-init c = none_made c.args.count c.in_ok-rows.rows.items c.in_ok-rows.ensures

pub loop-edge-preserved : goal.loop-edge-preserved
loop-edge-preserved c =
    let d : Edge = record { source = 0; target = 0 } in
    let e = get_or c.args.edges.now c.loop-edge.edge-index d in
    let source : e.source < length c.loop-edge.rows.items = let n = c.loop-edge.invariant.count in
    let q = (c.requires c.loop-edge.edge-index d c.loop-edge-test.true).0 in omega (arith, n, q) in
    one_added c.args.count c.args.edges.now c.loop-edge.edge-index e d c.loop-edge-test.true refl c.loop-edge.rows.items
    c.loop-edge.invariant _ c.index_mut.result.now c.push.new.self source
    c.index_mut.ensures.value c.in_ok-push.ensures.items refl

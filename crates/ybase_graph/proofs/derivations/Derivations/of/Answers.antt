use Rattle.std.proofs.Common.{ℕ, length, sym, subst}
use Rattle.std.specs.List.{range_with_len}
use Rattle.std.specs.List.Sorted.{IsPermutation}
use Rattle.ybase_graph.proofs.EdgeLemmas.{rows_within}
use Rattle.ybase_graph.proofs.MarkLemmas.{all_within}
use Rattle.ybase_graph.proofs.derivations.Derivations.of.Goals as goal

pub invariant_of-result : goal.invariant_of-result
invariant_of-result c = record {
  within = all_within (length c.in_ok-rows.rows.items) c.in_ok-order.order.items
      (subst (λ (n : ℕ). IsPermutation (range_with_len 0 n) c.in_ok-order.order.items) (sym c.in_ok-rows.ensures.count) c.in_ok-order.ensures.all);
}

pub returns : goal.returns
returns c = record {
  edge = c.in_ok-rows.ensures.edge;
  target = c.in_ok-rows.ensures.target;
  within = rows_within c.node_count-count.result c.args.edges.now c.node_count-count.ensures c.in_ok-rows.rows.items c.in_ok-rows.ensures;
  all = subst (λ (n : ℕ). IsPermutation (range_with_len 0 n) c.in_ok-order.order.items) (sym c.in_ok-rows.ensures.count) c.in_ok-order.ensures.all;
  behind = c.in_ok-order.ensures.behind;
}

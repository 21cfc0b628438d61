use Rattle.std.proofs.Common.{◌≡◌, ◌∙◌, ap, map, arith, rules}
use Rattle.std.proofs.lemmas.Result.{IfOk-weaker}
use Rattle.ybase_graph.specs.Search.{IsRanking, rank_of}
use Rattle.ybase_graph.proofs.RankLemmas.{is_ranking, no_path}
use Rattle.ybase_graph.proofs.WorkLemmas.{first_sound, first_counted}
use Rattle.ybase_graph.proofs.search.ranks.Goals as goal

pub enter-requires-clause-reached : goal.enter-requires-clause-reached
enter-requires-clause-reached c = λ i h. absurd (no_path c.args.graph.now c.loop-node.search.states.items c.loop-node.search.path.items
    c.loop-node.search.segments.items c.loop-node.search.waiting.items c.loop-node.search.known c.loop-node.invariant.sound c.loop-node.invariant.ended i h)

pub loop-node-init : goal.loop-node-init
loop-node-init c = record {
  sound = first_sound c.args.graph.now c.in_ok-vec.field-0.items c.new.result.items c.new-2.result.items c.new-3.result.items
      (search rules) c.new.ensures.items c.new-2.ensures.items c.new-3.ensures.items;
  counted = first_counted c.args.graph.now c.in_ok-vec.field-0.items c.new.result.items c.new-2.result.items c.new-3.result.items
      (search rules) c.new.ensures.items c.new-2.ensures.items c.new-3.ensures.items;
  ended = c.new-2.ensures.items;
  seen = λ v low. absurd (omega (arith, low));
}

pub returns : goal.returns
returns c = IfOk-weaker c.numbers.result (λ ranks. ranks.items ≡ map rank_of c.as_slice.result.now) (λ ranks. IsRanking c.args.graph.now ranks.items)
    (λ ranks is. is_ranking c.args.graph.now c.loop-node.search.states.items c.loop-node.search.path.items c.loop-node.search.segments.items
    c.loop-node.search.waiting.items c.loop-node.search.known c.loop-node.invariant.sound c.loop-node.invariant.ended
    (λ v h. c.loop-node.invariant.seen v (omega arith)) ranks.items (is ∙ ap (map rank_of) c.as_slice.ensures.value))
    c.numbers.ensures

use Rattle.std.proofs.Common.{get_or, rules}
use Rattle.std.proofs.lemmas.List.Sorted.{IsNonDecreasingBy-from_sort_by_key}
use Rattle.ybase_graph.proofs.order.by_rank.Goals as goal

pub returns-clause-rising : goal.returns-clause-rising
returns-clause-rising c = IsNonDecreasingBy-from_sort_by_key (λ v. get_or c.args.ranks.now v 0) c.sort_by_key.new.self.items
    c.in_ok-sort_by_key.ensures.sorted (λ a r q k. search rules)

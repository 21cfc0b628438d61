use Rattle.ytype_patterns.proofs.SetLemmas.{if_ok, union_is}
use Rattle.ytype_patterns.proofs.sets.either.Goals as goal

pub returns : goal.returns
returns c = if_ok _ _ c.union.result (λ r exactly. union_is c.args.first.now.ranges.items c.args.second.now.ranges.items r.ranges.items c.args.first.now.canonical c.args.second.now.canonical r.canonical exactly) c.union.ensures

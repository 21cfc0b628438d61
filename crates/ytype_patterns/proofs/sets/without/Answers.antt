use Rattle.ytype_patterns.proofs.SetLemmas.{if_ok, difference_is}
use Rattle.ytype_patterns.proofs.sets.without.Goals as goal

pub returns : goal.returns
returns c = if_ok _ _ c.difference.result (λ r exactly. difference_is c.args.outer.now.ranges.items c.args.inner.now.ranges.items r.ranges.items c.args.outer.now.canonical r.canonical exactly) c.difference.ensures

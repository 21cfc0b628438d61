use Rattle.ytype_patterns.proofs.SetLemmas.{if_ok, negated_is}
use Rattle.ytype_patterns.proofs.sets.outside.Goals as goal

pub returns : goal.returns
returns c = if_ok _ _ c.negate.result (λ r exactly. negated_is c.args.class.now.ranges.items r.ranges.items r.canonical exactly) c.negate.ensures

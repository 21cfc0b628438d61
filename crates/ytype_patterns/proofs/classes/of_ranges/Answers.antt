use Rattle.ytype_patterns.proofs.SetLemmas.{if_ok}
use Rattle.ytype_patterns.proofs.ClassLemmas.{collected_is}
use Rattle.ytype_patterns.proofs.classes.of_ranges.Goals as goal

pub returns : goal.returns
returns c = if_ok _ _ c.new.result (λ r exactly. collected_is c.args.ranges.items r.ranges.items r.canonical exactly) c.new.ensures

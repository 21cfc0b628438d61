use Rattle.ytype_patterns.proofs.SetLemmas.{if_ok, categories_are}
use Rattle.ytype_patterns.proofs.sets.of_categories.Goals as goal

pub returns : goal.returns
returns c = if_ok _ _ c.new.result (λ r exactly. categories_are c.args.first c.args.last c.runs.result.now c.in_ok-ranges.ranges.items r.ranges.items c.runs.ensures c.in_ok-ranges.ensures.members r.canonical exactly) c.new.ensures

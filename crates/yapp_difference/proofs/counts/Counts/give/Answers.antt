use Rattle.std.proofs.Common.{ap, ◌-◌}
use Rattle.yapp_difference.specs.KeyView.{key_view}
use Rattle.yapp_difference.specs.Counting.{count_of}
use Rattle.yapp_difference.specs.declared.counts.Count.{Count}
use Rattle.yapp_difference.proofs.IndexLemmas.{at_key}
use Rattle.yapp_difference.proofs.counts.Counts.give.Goals as goal

pub returns-clause-taken : goal.returns-clause-taken
returns-clause-taken c = λ k.
    at_key (λ (n : Count). n.taken) (λ n. n - 1) (key_view c.args.key) k (count_of c.args.self.now) (record { all = c.count_of-all.result.all; taken = c.count_of-all.result.taken - 1 })
    (count_of c.put.new.self k) (c.in_ok-put.ensures k) (ap (λ (n : Count). n.taken - 1) c.count_of-all.ensures)

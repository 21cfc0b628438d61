use Rattle.std.proofs.Common.{ap, ◌+◌}
use Rattle.yapp_difference.specs.KeyView.{key_view}
use Rattle.yapp_difference.specs.Counting.{count_of}
use Rattle.yapp_difference.specs.declared.counts.Count.{Count}
use Rattle.yapp_difference.proofs.IndexLemmas.{at_key, on_ok, stays_at_key}
use Rattle.yapp_difference.proofs.counts.Counts.add.Goals as goal

pub returns-clause-all : goal.returns-clause-all
returns-clause-all c =
    on_ok c.put.result c.put.ensures (λ put k.
    at_key (λ (n : Count). n.all) (λ n. n + 1) (key_view c.args.key) k (count_of c.args.self.now) (record { all = c.count_of-all.result.all + 1; taken = c.count_of-all.result.taken })
    (count_of c.put.new.self k) (put k) (ap (λ (n : Count). n.all + 1) c.count_of-all.ensures))

pub returns-clause-taken : goal.returns-clause-taken
returns-clause-taken c =
    on_ok c.put.result c.put.ensures (λ put k.
    stays_at_key (λ (n : Count). n.taken) (key_view c.args.key) k (count_of c.args.self.now) (record { all = c.count_of-all.result.all + 1; taken = c.count_of-all.result.taken })
    (count_of c.put.new.self k) (put k) (ap (λ (n : Count). n.taken) c.count_of-all.ensures))

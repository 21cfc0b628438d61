use Rattle.std.proofs.Common.{Some, None}
use Rattle.yapp_difference.proofs.IndexLemmas.{found}
use Rattle.yapp_difference.proofs.counts.Counts.count_of.Goals as goal

pub returns-in-Some : goal.returns-in-Some
returns-in-Some c = found c.args.key.now c.args.self.now.by_key.entries (Some c.in-Some.count.now) c.in-Some.ensures.value

pub returns-in-None : goal.returns-in-None
returns-in-None c = found c.args.key.now c.args.self.now.by_key.entries None c.in-None.ensures.value

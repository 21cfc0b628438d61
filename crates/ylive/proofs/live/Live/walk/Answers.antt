use Rattle.ystore.specs.Viewed.{viewed}
use Rattle.ylive_list.specs.Walked.{left}
use Rattle.ylive.proofs.LiveLemmas.{walks_all}
use Rattle.ylive.proofs.live.Live.walk.Goals as goal

pub returns : goal.returns
returns c = walks_all c.self.inside.schema c.self.inside.nodes (viewed c.view.result) c.self.inside.is_stale c.args.self.now (left c.of.result)
    c.self.view_is c.view.ensures c.self.invariant c.if-self.false c.of.ensures.faults

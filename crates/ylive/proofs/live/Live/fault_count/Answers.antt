use Rattle.ystore.specs.Viewed.{viewed}
use Rattle.ylive.proofs.LiveLemmas.{known_is}
use Rattle.ylive.proofs.live.Live.fault_count.Goals as goal

pub returns : goal.returns
returns c = known_is c.self.inside.schema c.self.inside.nodes (viewed c.view.result) c.self.inside.is_stale c.args.self.now c.total.result c.self.view_is
    c.view.ensures c.self.invariant c.if-self.false c.total.ensures

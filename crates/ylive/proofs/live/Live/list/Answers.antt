use Rattle.ycheck.specs.View.{views}
use Rattle.ystore.specs.Viewed.{viewed}
use Rattle.ylive.proofs.LiveLemmas.{lists_all}
use Rattle.ylive.proofs.live.Live.list.Goals as goal

pub returns-in-Ok : goal.returns-in-Ok
returns-in-Ok c = lists_all c.self.inside.schema c.self.inside.nodes (viewed c.view.result) c.self.inside.is_stale c.args.self.now (views c.in-Ok.found.items)
    c.self.view_is c.view.ensures c.self.invariant c.if-self.false c.in-Ok.ensures.listed

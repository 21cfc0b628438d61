use Rattle.ystore.proofs.StoreLemmas.{resized}
use Rattle.ystore.proofs.nodes.counted.Counted.reserve_nodes.Goals as goal

pub returns-clause-store : goal.returns-clause-store
returns-clause-store c = resized c.args.self.now.nodes.now c.reserve.new.self c.reserve.ensures.rest_kept

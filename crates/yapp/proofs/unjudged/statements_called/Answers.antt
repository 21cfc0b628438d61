use Rattle.std.proofs.Common.{arith}
use Rattle.yapp.proofs.NotedLemmas.{one_module}
use Rattle.yapp.proofs.unjudged.statements_called.Goals as goal

pub loop-parsed-preserved : goal.loop-parsed-preserved
loop-parsed-preserved c = one_module c.args.keyword.now c.args.modules.now c.loop-parsed.parsed-index c.parsed-item.result _ _ _
    (omega arith) c.parsed-item.is c.in_ok-add_called_at.ensures c.loop-parsed.invariant

use Rattle.std.proofs.Common.{arith}
use Rattle.yapp.proofs.NotedLemmas.{one_more}
use Rattle.yapp.proofs.unjudged.+called.Goals as goal

pub add_called-loop-statement-preserved : goal.add_called-loop-statement-preserved
add_called-loop-statement-preserved t c = one_more c.args.keyword.now c.args.statements.now c.loop-statement.statement-index c.statement-item.result _ _ _
    (omega arith) c.statement-item.is c.in_ok-add_called_at.ensures c.loop-statement.invariant

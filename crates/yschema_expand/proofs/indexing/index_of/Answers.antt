use Rattle.std.proofs.Common.{arith}
use Rattle.yschema_expand.specs.Indexing.{look_by}
use Rattle.yschema_expand.proofs.IndexLemmas.{all_found}
use Rattle.yschema_expand.proofs.indexing.index_of.Goals as goal

pub returns : goal.returns
returns c = λ above name. all_found above name c.args.slots.now c.loop-number.number (look_by c.loop-number.index above name) _ (omega arith)
    (c.loop-number.invariant.look above name)

use Rattle.std.proofs.Common.{arith}
use Rattle.yschema_model.specs.View.{view}
use Rattle.ylive_facts.proofs.PlayLemmas.{values_next, values_ended}
use Rattle.ylive_facts.proofs.play.InPlay.give_all.Goals as goal

pub loop-value-preserved : goal.loop-value-preserved
loop-value-preserved c =
    values_next (view c.args.schema.now) c.args.id.0 c.args.values.now c.loop-value.value-index c.value-item.result c.args.self.now c.loop-value.self c.give.new.self
    (omega arith) c.value-item.is c.in_ok-give.ensures c.loop-value.invariant

pub returns : goal.returns
returns c =
    values_ended (view c.args.schema.now) c.args.id.0 c.args.values.now c.loop-value.value-index c.args.self.now c.loop-value.self (omega arith) c.loop-value.invariant

use Rattle.std.proofs.Common.{arith}
use Rattle.yschema_model.specs.View as schema_view
use Rattle.yinst_tree.specs.View as document_view
use Rattle.ysay_fault.proofs.FoundLemmas.{fellow_listed}
use Rattle.ysay_jumps.proofs.telling.fault_jumps.Goals as goal

pub add_jump-requires : goal.add_jump-requires
add_jump-requires c =
    fellow_listed (schema_view.view c.args.schema.now) (document_view.tree_view c.args.tree.now) c.args.faults.now c.in_ok-fellows.fellows.items c.in_ok-fellows.ensures
    c.loop-number.number c.index-faults-number.result c.index.result.now (let test = c.loop-number-test.true in omega (arith, test)) c.index-faults-number.is c.index.ensures

use Rattle.std.proofs.Common.{arith}
use Rattle.yschema_model.specs.View as schema_view
use Rattle.yinst_tree.specs.View as document_view
use Rattle.ysay_fault.proofs.FoundLemmas.{fellow_listed}
use Rattle.ysay_json.proofs.line.json_lines.Goals as goal

pub add_line-requires : goal.add_line-requires
add_line-requires c =
    fellow_listed (schema_view.view c.args.schema.now) (document_view.tree_view c.args.tree.now) c.args.faults.now c.in_ok-fellows.fellows.items c.in_ok-fellows.ensures
    c.loop-number.number c.index-faults-number.result c.index.result.now (let test = c.loop-number-test.true in omega (arith, test)) c.index-faults-number.is c.index.ensures

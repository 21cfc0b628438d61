use Rattle.std.proofs.Common.{arith}
use Rattle.yinst_path.specs.EditView.{edit_view}
use Rattle.yapp_session.proofs.ListLemmas.{one_copied}
use Rattle.yapp_session.proofs.copying.copy_edits.Goals as goal

pub loop-edit-preserved : goal.loop-edit-preserved
loop-edit-preserved c =
    one_copied edit_view edit_view c.loop-edit.copies.items c.push.new.self.items c.in_ok-copy_edit.field-0 c.args.edits.now c.loop-edit.edit-index c.edit-item.result
    (omega arith) c.edit-item.is c.in_ok-push.ensures.items c.in_ok-copy_edit.ensures c.loop-edit.invariant

use Rattle.std.proofs.Common.{arith}
use Rattle.yinst_path.specs.EditView.{key_view}
use Rattle.yapp_session.proofs.ListLemmas.{one_copied}
use Rattle.yapp_session.proofs.copying.copy_keys.Goals as goal

pub loop-key-preserved : goal.loop-key-preserved
loop-key-preserved c =
    one_copied key_view key_view c.loop-key.copies.items c.push.new.self.items c.in_ok-copy_key.field-0 c.args.keys.now c.loop-key.key-index c.key-item.result
    (omega arith) c.key-item.is c.in_ok-push.ensures.items c.in_ok-copy_key.ensures c.loop-key.invariant

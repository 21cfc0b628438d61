use Rattle.std.proofs.Common.{◌≡◌, ◌++◌, drop}
use Rattle.yinst_path.specs.EditView.{keys_view}
use Rattle.yapp_session.proofs.copying.copy_keys.Given as goal

abbrev pub invariant-loop-key : goal.invariant-loop-key
invariant-loop-key l = keys_view l.copies.items ++ keys_view (drop l.key-index l.keys) ≡ keys_view l.keys

use Rattle.std.proofs.Common.{◌≡◌, ◌++◌, drop, string_bytes}
use Rattle.std.specs.List.{flat_map}
use Rattle.yinst_path.specs.EditView.{keys_view}
use Rattle.ysay_edit.specs.Now.{key_written}
use Rattle.ysay_edit.proofs.now.keys_written.Given as goal

abbrev pub invariant-loop-key : goal.invariant-loop-key
invariant-loop-key l = string_bytes l.text ++ flat_map key_written (keys_view (drop l.key-index l.keys))
    ≡ flat_map key_written (keys_view l.keys)

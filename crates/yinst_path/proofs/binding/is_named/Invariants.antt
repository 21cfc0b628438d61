use Rattle.std.proofs.Common.{◌≡◌, drop}
use Rattle.yschema_model.specs.View.{view}
use Rattle.yinst_path.specs.EditView.{keys_view}
use Rattle.yinst_path.specs.Binding.{is_named}
use Rattle.yinst_path.proofs.binding.is_named.Given as goal

abbrev pub invariant-loop-key : goal.invariant-loop-key
invariant-loop-key l = is_named (view l.schema) l.id.0 (keys_view (drop l.key-index l.keys))
    ≡ is_named (view l.schema) l.id.0 (keys_view l.keys)

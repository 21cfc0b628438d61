use Rattle.std.proofs.Common.{◌≡◌, drop}
use Rattle.yspec.specs.edit.Editing.{key_text}
use Rattle.yschema_model.specs.View.{view}
use Rattle.yinst_path.specs.EditView.{keys_view}
use Rattle.yinst.proofs.locating.key_text.Given as goal

abbrev pub invariant-loop-key : goal.invariant-loop-key
invariant-loop-key l = key_text (keys_view (drop l.key-index l.keys)) (view l.schema) l.id.0 ≡ key_text (keys_view l.keys) (view l.schema) l.id.0

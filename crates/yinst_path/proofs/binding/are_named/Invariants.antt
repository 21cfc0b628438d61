use Rattle.std.proofs.Common.{◌≡◌, drop}
use Rattle.yschema_model.specs.View.{view}
use Rattle.yschema_model.specs.Layout.{numbers_of}
use Rattle.yinst_path.specs.EditView.{keys_view}
use Rattle.yinst_path.specs.Binding.{are_named}
use Rattle.yinst_path.proofs.binding.are_named.Given as goal

abbrev pub invariant-loop-id : goal.invariant-loop-id
invariant-loop-id l = are_named (view l.schema) (keys_view l.keys) (numbers_of (drop l.id-index l.ids))
    ≡ are_named (view l.schema) (keys_view l.keys) (numbers_of l.ids)

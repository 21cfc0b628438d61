use Rattle.std.proofs.Common.{◌≡◌, drop}
use Rattle.yspec.specs.edit.Editing.{fits_keys}
use Rattle.yschema_model.specs.Layout.{numbers_of}
use Rattle.yschema_model.specs.View.{view}
use Rattle.yinst_tree.specs.View.{row_view}
use Rattle.yinst_path.specs.EditView.{keys_view}
use Rattle.yinst.proofs.locating.fits_keys.Given as goal

abbrev pub invariant-loop-id : goal.invariant-loop-id
invariant-loop-id l = fits_keys (view l.schema) (numbers_of (drop l.id-index l.ids)) (keys_view l.keys) (row_view l.entry)
    ≡ fits_keys (view l.schema) (numbers_of l.ids) (keys_view l.keys) (row_view l.entry)

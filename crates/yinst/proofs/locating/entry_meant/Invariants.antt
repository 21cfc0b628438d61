use Rattle.std.proofs.Common.{◌≡◌, ◌+◌, ◌≤◌, ◌++◌, drop}
use Rattle.yspec.specs.schema.Schema.{keys_in}
use Rattle.yspec.specs.edit.Editing.{the_one, positions_where, fits_keys}
use Rattle.yschema_model.specs.Layout.{numbers_of}
use Rattle.yschema_model.specs.View.{view}
use Rattle.yinst_tree.specs.View.{row_view}
use Rattle.yinst_path.specs.Applying.{edit_number}
use Rattle.yinst_path.specs.Binding.{node_of}
use Rattle.yinst_path.specs.EditView.{keys_view}
use Rattle.yinst.specs.Locating.{found_list}
use Rattle.yinst.proofs.locating.entry_meant.Given as goal

abbrev pub invariant-loop-entry : goal.invariant-loop-entry
invariant-loop-entry l = record {
  within : l.position ≤ l.entry-index + 1;
  found : the_one (edit_number l.missing) l.id.0
      (found_list l.found ++ positions_where l.id.0 (fits_keys (view l.schema) (numbers_of l.ids) (keys_view l.keys)) l.position (row_view (drop l.entry-index l.row)))
      ≡ the_one (edit_number l.missing) l.id.0
      (positions_where l.id.0 (fits_keys (view l.schema) (keys_in (node_of (view l.schema) l.id.0).kind) (keys_view l.keys)) 1 (row_view l.row));
}

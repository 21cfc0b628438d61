-- Where a path leads now, as the definition's.
use Rattle.std.specs.Prelude.{string_bytes}
use Rattle.yinst_tree.specs.View.{row_view}
use Rattle.yinst_path.specs.EditView.{step_view}
use Rattle.ysay_edit.specs.Now as spec
use Rattle.ysay_edit.specs.declared.now.Reached.{Reached}

abbrev pub reached_view : Reached → spec.Reached
reached_view r = record {
  above = string_bytes r.above;
  number = r.id.0;
  row = row_view r.row.now;
  step = step_view r.step.now;
  is_last = r.is_last;
}

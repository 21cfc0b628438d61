use Rattle.ybase_output.proofs.WritingLemmas.{left_all, left_after, left_failed, left_last}
use Rattle.ydiagram.proofs.rows.write_line.Goals as goal

pub returns-in_err-write_indentation : goal.returns-in_err-write_indentation
returns-in_err-write_indentation g c =
    left_failed _ _ _ _ _ _ c.from_residual.result c.from_residual.ensures.0
    (left_all _ _) c.in_err-write_indentation.ensures

pub returns-in_err-write_marks : goal.returns-in_err-write_marks
returns-in_err-write_marks g c =
    left_failed _ _ _ _ _ _ c.from_residual-in_err-write_marks.result c.from_residual-in_err-write_marks.ensures.0
    (left_after _ _ _ _ _ _ (left_all _ _) c.in_ok-write_indentation.ensures) c.in_err-write_marks.ensures

pub returns-in_err-write_label : goal.returns-in_err-write_label
returns-in_err-write_label g c =
    left_failed _ _ _ _ _ _ c.from_residual-in_err-write_label.result c.from_residual-in_err-write_label.ensures.0
    (left_after _ _ _ _ _ _ (left_after _ _ _ _ _ _ (left_all _ _) c.in_ok-write_indentation.ensures) c.in_ok-write_marks.ensures) c.in_err-write_label.ensures

pub returns-in_err-write_type_column : goal.returns-in_err-write_type_column
returns-in_err-write_type_column g c =
    left_failed _ _ _ _ _ _ c.from_residual-in_err-write_type_column.result c.from_residual-in_err-write_type_column.ensures.0
    (left_after _ _ _ _ _ _ (left_after _ _ _ _ _ _ (left_after _ _ _ _ _ _ (left_all _ _) c.in_ok-write_indentation.ensures) c.in_ok-write_marks.ensures) c.in_ok-write_label.ensures) c.in_err-write_type_column.ensures

pub returns : goal.returns
returns g c =
    left_last _ _ _ _ _ c.put.result
    (left_after _ _ _ _ _ _ (left_after _ _ _ _ _ _ (left_after _ _ _ _ _ _ (left_after _ _ _ _ _ _ (left_all _ _) c.in_ok-write_indentation.ensures) c.in_ok-write_marks.ensures) c.in_ok-write_label.ensures) c.in_ok-write_type_column.ensures) c.put.ensures

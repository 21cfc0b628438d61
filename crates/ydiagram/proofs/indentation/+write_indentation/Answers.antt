use Rattle.std.proofs.Common.{sym, ap, ◌++◌, ◌∙◌}
use Rattle.std.proofs.lemmas.List.{append-nil}
use Rattle.ybase_output.proofs.WritingLemmas.{writes_after, writes_same, left_failed, left_all}
use Rattle.ydiagram.specs.View.{indentation_text, column}
use Rattle.ydiagram.proofs.indentation.+write_indentation.Goals as goal

pub returns-in_err-write_indentation-in-Below : goal.returns-in_err-write_indentation-in-Below
returns-in_err-write_indentation-in-Below g t c =
    let r = c.from_residual.result in
    writes_same _ _ (indentation_text c.in-Below.above.now ++ column c.in-Below.is_followed) _ r (sym (ap indentation_text c.in-Below.is))
    (left_failed _ _ _ _ _ _ r c.from_residual.ensures.0 (left_all _ _) c.in_err-write_indentation-in-Below.ensures)

pub returns-in_ok-write_indentation-in-Below : goal.returns-in_ok-write_indentation-in-Below
returns-in_ok-write_indentation-in-Below g t c =
    let r = c.put-in-Below.result in
    writes_same _ _ (indentation_text c.in-Below.above.now ++ (c.column.result.now ++ _)) _ r
    (ap (λ x. indentation_text c.in-Below.above.now ++ x) (append-nil c.column.result.now ∙ c.column.ensures) ∙ sym (ap indentation_text c.in-Below.is))
    (writes_after _ _ _ _ _ r c.in_ok-write_indentation-in-Below.ensures c.put-in-Below.ensures)

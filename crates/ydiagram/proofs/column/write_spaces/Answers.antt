use Rattle.ybase_output.proofs.WritingLemmas.{left_same, left_after, left_none, left_failed}
use Rattle.ydiagram.proofs.LabelLemmas.{spaces_next, no_spaces}
use Rattle.ydiagram.proofs.column.write_spaces.Goals as goal

pub loop-left-preserved : goal.loop-left-preserved
loop-left-preserved g c =
    left_after _ _ _ _ _ _ (left_same _ _ _ _ _ (spaces_next c.loop-left.left c.loop-left-test.true) c.loop-left.invariant) c.in_ok-put.ensures

pub returns : goal.returns
returns g c = left_none _ _ _ (left_same _ _ _ _ _ (no_spaces c.loop-left.left c.loop-left-test.false) c.loop-left.invariant)

pub returns-in_err-put : goal.returns-in_err-put
returns-in_err-put g c = left_failed _ _ _ _ _ _ c.from_residual.result c.from_residual.ensures.0
    (left_same _ _ _ _ _ (spaces_next c.loop-left.left c.loop-left-test.true) c.loop-left.invariant) c.in_err-put.ensures

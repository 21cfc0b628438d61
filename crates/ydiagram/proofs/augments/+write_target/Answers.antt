use Rattle.std.proofs.Common.{Some, None}
use Rattle.yschema_model.specs.View.{view}
use Rattle.ybase_output.proofs.WritingLemmas.{writes_after, writes_same, left_failed, left_all}
use Rattle.ydiagram.proofs.AugmentLemmas.{target_parted}
use Rattle.ydiagram.proofs.augments.+write_target.Goals as goal

pub returns-in_err-write_target-in-Some : goal.returns-in_err-write_target-in-Some
returns-in_err-write_target-in-Some g t c =
    let r = c.from_residual.result in
    writes_same _ _ _ _ r (target_parted (view c.args.schema.now) c.args.id.0 (Some c.in-Some.parent.0) c.in-Some.ensures.way)
    (left_failed _ _ _ _ _ _ r c.from_residual.ensures.0 (left_all _ _) c.in_err-write_target-in-Some.ensures)

pub returns-in_ok-write_target-in-Some : goal.returns-in_ok-write_target-in-Some
returns-in_ok-write_target-in-Some g t c =
    let r = c.write_target_step.result in
    writes_same _ _ _ _ r (target_parted (view c.args.schema.now) c.args.id.0 (Some c.in-Some.parent.0) c.in-Some.ensures.way)
    (writes_after _ _ _ _ _ r c.in_ok-write_target-in-Some.ensures c.write_target_step.ensures)

pub returns-in-None : goal.returns-in-None
returns-in-None g t c =
    let r = c.write_target_step-in-None.result in
    writes_same _ _ _ _ r (target_parted (view c.args.schema.now) c.args.id.0 None c.in-None.ensures.way) c.write_target_step-in-None.ensures

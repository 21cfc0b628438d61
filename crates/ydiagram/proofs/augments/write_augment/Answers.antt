use Rattle.yschema_model.specs.View.{augment_view, view}
use Rattle.yschema_model.proofs.CallerLemmas.{numbered}
use Rattle.ybase_output.proofs.WritingLemmas.{left_all, left_same, left_after, left_failed, left_last}
use Rattle.ydiagram.proofs.AugmentLemmas.{augment_parts}
use Rattle.ydiagram.proofs.augments.write_augment.Goals as goal

pub returns-in_err-put : goal.returns-in_err-put
returns-in_err-put g c =
    left_failed _ _ _ _ _ _ c.from_residual.result c.from_residual.ensures.0
    (left_same _ _ _ _ _ (augment_parts (view c.args.schema.now) c.args.shown (augment_view c.args.augment.now) (numbered c.args.schema.now) c.requires) (left_all _ _))
    c.in_err-put.ensures

pub returns-in_err-write_target : goal.returns-in_err-write_target
returns-in_err-write_target g c =
    left_failed _ _ _ _ _ _ c.from_residual-in_err-write_target.result c.from_residual-in_err-write_target.ensures.0
    (left_after _ _ _ _ _ _
    (left_same _ _ _ _ _ (augment_parts (view c.args.schema.now) c.args.shown (augment_view c.args.augment.now) (numbered c.args.schema.now) c.requires) (left_all _ _))
    c.in_ok-put.ensures) c.in_err-write_target.ensures

pub returns-in_err-put-2 : goal.returns-in_err-put-2
returns-in_err-put-2 g c =
    left_failed _ _ _ _ _ _ c.from_residual-in_err-put-2.result c.from_residual-in_err-put-2.ensures.0
    (left_after _ _ _ _ _ _ (left_after _ _ _ _ _ _
    (left_same _ _ _ _ _ (augment_parts (view c.args.schema.now) c.args.shown (augment_view c.args.augment.now) (numbered c.args.schema.now) c.requires) (left_all _ _))
    c.in_ok-put.ensures) c.in_ok-write_target.ensures) c.in_err-put-2.ensures

pub returns : goal.returns
returns g c =
    left_last _ _ _ _ _ c.write_added.result
    (left_after _ _ _ _ _ _ (left_after _ _ _ _ _ _ (left_after _ _ _ _ _ _
    (left_same _ _ _ _ _ (augment_parts (view c.args.schema.now) c.args.shown (augment_view c.args.augment.now) (numbered c.args.schema.now) c.requires) (left_all _ _))
    c.in_ok-put.ensures) c.in_ok-write_target.ensures) c.in_ok-put-2.ensures) c.write_added.ensures

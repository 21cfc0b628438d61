use Rattle.std.proofs.Common.{refl, ap, ◌∙◌}
use Rattle.yspec_fit.specs.Fit.{all_ascend}
use Rattle.yschema_model.specs.View.{view}
use Rattle.yschema_model.proofs.CallerLemmas.{augments_ascend}
use Rattle.ybase_output.proofs.WritingLemmas.{left_all, left_same, left_failed, left_after, left_last}
use Rattle.yspec.specs.schema.Schema.{augments_in}
use Rattle.ydiagram.proofs.AugmentLemmas.{diagram_whole}
use Rattle.ydiagram.proofs.rows.write.Goals as goal

pub returns-in_err-write_module : goal.returns-in_err-write_module
returns-in_err-write_module g c =
    let s = view c.args.schema.now in
    left_failed _ _ _ _ _ _ c.from_residual.result c.from_residual.ensures.0
    (left_same _ _ _ _ _ (diagram_whole s c.args.«module» (augments_in s c.args.«module») refl) (left_all _ _))
    c.in_err-write_module.ensures

pub write_augments-requires : goal.write_augments-requires
write_augments-requires g c = ap all_ascend c.augments.ensures ∙ augments_ascend c.args.schema.now c.args.«module»

pub returns : goal.returns
returns g c =
    left_last _ _ _ _ _ c.write_augments.result
    (left_after _ _ _ _ _ _
    (left_same _ _ _ _ _ (diagram_whole (view c.args.schema.now) c.args.«module» _ c.augments.ensures) (left_all _ _))
    c.in_ok-write_module.ensures) c.write_augments.ensures

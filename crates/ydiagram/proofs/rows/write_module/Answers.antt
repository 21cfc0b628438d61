use Rattle.std.proofs.Common.{refl}
use Rattle.yschema_model.specs.View.{view, row_view}
use Rattle.ybase_output.proofs.WritingLemmas.{left_all, left_same, left_failed, left_after, left_last}
use Rattle.ydiagram.proofs.AugmentLemmas.{module_parts}
use Rattle.ydiagram.proofs.rows.write_module.Goals as goal

pub returns-in_err-put : goal.returns-in_err-put
returns-in_err-put g c =
    let s = view c.args.schema.now in
    left_failed _ _ _ _ _ _ c.from_residual.result c.from_residual.ensures.0
    (left_same _ _ _ _ _ (module_parts s c.args.«module» c.module_name.result.now s.nodes c.module_name.ensures refl) (left_all _ _))
    c.in_err-put.ensures

pub returns : goal.returns
returns g c =
    let s = view c.args.schema.now in
    left_last _ _ _ _ _ c.write_row.result
    (left_after _ _ _ _ _ _
    (left_same _ _ _ _ _ (module_parts s c.args.«module» c.module_name.result.now (row_view c.roots.result) c.module_name.ensures c.roots.ensures) (left_all _ _))
    c.in_ok-put.ensures) c.write_row.ensures

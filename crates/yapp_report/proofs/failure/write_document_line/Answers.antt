use Rattle.std.proofs.Common.{decimal}
use Rattle.yspec.specs.document.Path.{path_text}
use Rattle.yschema_model.specs.View.{view}
use Rattle.yinst_tree.specs.View.{place_view}
use Rattle.ybase_output.proofs.WritingLemmas.{left_all, left_after, left_broken, left_failed, left_last, left_same}
use Rattle.yapp_report.proofs.PartLemmas.{refusal_parts}
use Rattle.yapp_report.proofs.failure.write_document_line.Goals as goal

pub returns-in_err-write_document_code : goal.returns-in_err-write_document_code
returns-in_err-write_document_code g c =
    let path = path_text (view c.args.schema.now) (place_view c.args.place.now) in
    left_failed _ _ _ _ _ _ c.from_residual.result c.from_residual.ensures.0
    (left_same _ _ _ _ _ (refusal_parts c.args.name.now (decimal c.args.code) path) (left_all _ _))
    c.in_err-write_document_code.ensures

pub returns-in-Ok : goal.returns-in-Ok
returns-in-Ok g c =
    let path = path_text (view c.args.schema.now) (place_view c.args.place.now) in
    left_last _ _ _ _ _ c.write_texts.result (left_after _ _ _ _ _ _ (left_after _ _ _ _ _ _
    (left_same _ _ _ _ _ (refusal_parts c.args.name.now (decimal c.args.code) path) (left_all _ _))
    c.in_ok-write_document_code.ensures) c.in-Ok.ensures) c.write_texts.ensures

pub returns-in-Err : goal.returns-in-Err
returns-in-Err g c =
    let path = path_text (view c.args.schema.now) (place_view c.args.place.now) in
    left_broken _ _ _ _ _ _ (left_after _ _ _ _ _ _
    (left_same _ _ _ _ _ (refusal_parts c.args.name.now (decimal c.args.code) path) (left_all _ _))
    c.in_ok-write_document_code.ensures) c.in-Err.ensures

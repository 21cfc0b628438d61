use Rattle.yschema_model.specs.View as schema
use Rattle.ybase_output.proofs.WritingLemmas.{left_all, left_same, left_after, left_failed, left_last}
use Rattle.ycheck.proofs.LineLemmas.{line_parts}
use Rattle.ycheck.proofs.lines.write_parts.Goals as goal

pub returns-in_err-put : goal.returns-in_err-put
returns-in_err-put g c =
    left_failed _ _ _ _ _ _ c.from_residual.result c.from_residual.ensures.0
    (left_same _ _ _ _ _ (line_parts (schema.view c.args.schema.now) c.args.parts _ _ c.code_text.ensures c.tag_text.ensures) (left_all _ _))
    c.in_err-put.ensures

pub returns-in_err-write_app_tag : goal.returns-in_err-write_app_tag
returns-in_err-write_app_tag g c =
    left_failed _ _ _ _ _ _ c.from_residual-in_err-write_app_tag.result c.from_residual-in_err-write_app_tag.ensures.0
    (left_after _ _ _ _ _ _
    (left_same _ _ _ _ _ (line_parts (schema.view c.args.schema.now) c.args.parts _ _ c.code_text.ensures c.tag_text.ensures) (left_all _ _))
    c.in_ok-put.ensures) c.in_err-write_app_tag.ensures

pub returns-in_err-put-2 : goal.returns-in_err-put-2
returns-in_err-put-2 g c =
    left_failed _ _ _ _ _ _ c.from_residual-in_err-put-2.result c.from_residual-in_err-put-2.ensures.0
    (left_after _ _ _ _ _ _ (left_after _ _ _ _ _ _
    (left_same _ _ _ _ _ (line_parts (schema.view c.args.schema.now) c.args.parts _ _ c.code_text.ensures c.tag_text.ensures) (left_all _ _))
    c.in_ok-put.ensures) c.in_ok-write_app_tag.ensures) c.in_err-put-2.ensures

pub returns-in_err-write_path : goal.returns-in_err-write_path
returns-in_err-write_path g c =
    let s = schema.view c.args.schema.now in
    left_failed _ _ _ _ _ _ c.from_residual-in_err-write_path.result c.from_residual-in_err-write_path.ensures.0
    (left_after _ _ _ _ _ _ (left_after _ _ _ _ _ _ (left_after _ _ _ _ _ _
    (left_same _ _ _ _ _ (line_parts s c.args.parts _ _ c.code_text.ensures c.tag_text.ensures) (left_all _ _))
    c.in_ok-put.ensures) c.in_ok-write_app_tag.ensures) c.in_ok-put-2.ensures)
    c.in_err-write_path.ensures

pub returns-in_err-put-3 : goal.returns-in_err-put-3
returns-in_err-put-3 g c =
    let s = schema.view c.args.schema.now in
    left_failed _ _ _ _ _ _ c.from_residual-in_err-put-3.result c.from_residual-in_err-put-3.ensures.0
    (left_after _ _ _ _ _ _ (left_after _ _ _ _ _ _ (left_after _ _ _ _ _ _ (left_after _ _ _ _ _ _
    (left_same _ _ _ _ _ (line_parts s c.args.parts _ _ c.code_text.ensures c.tag_text.ensures) (left_all _ _))
    c.in_ok-put.ensures) c.in_ok-write_app_tag.ensures) c.in_ok-put-2.ensures)
    c.in_ok-write_path.ensures) c.in_err-put-3.ensures

pub returns-in_err-write_info : goal.returns-in_err-write_info
returns-in_err-write_info g c =
    let s = schema.view c.args.schema.now in
    left_failed _ _ _ _ _ _ c.from_residual-in_err-write_info.result c.from_residual-in_err-write_info.ensures.0
    (left_after _ _ _ _ _ _ (left_after _ _ _ _ _ _ (left_after _ _ _ _ _ _ (left_after _ _ _ _ _ _ (left_after _ _ _ _ _ _
    (left_same _ _ _ _ _ (line_parts s c.args.parts _ _ c.code_text.ensures c.tag_text.ensures) (left_all _ _))
    c.in_ok-put.ensures) c.in_ok-write_app_tag.ensures) c.in_ok-put-2.ensures)
    c.in_ok-write_path.ensures) c.in_ok-put-3.ensures) c.in_err-write_info.ensures

pub returns : goal.returns
returns g c =
    let s = schema.view c.args.schema.now in
    left_last _ _ _ _ _ c.put-4.result
    (left_after _ _ _ _ _ _ (left_after _ _ _ _ _ _ (left_after _ _ _ _ _ _ (left_after _ _ _ _ _ _ (left_after _ _ _ _ _ _ (left_after _ _ _ _ _ _
    (left_same _ _ _ _ _ (line_parts s c.args.parts _ _ c.code_text.ensures c.tag_text.ensures) (left_all _ _))
    c.in_ok-put.ensures) c.in_ok-write_app_tag.ensures) c.in_ok-put-2.ensures)
    c.in_ok-write_path.ensures) c.in_ok-put-3.ensures) c.in_ok-write_info.ensures) c.put-4.ensures

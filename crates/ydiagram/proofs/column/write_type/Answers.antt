use Rattle.yschema_model.specs.Layout.{leaf_type_view}
use Rattle.yschema_model.specs.View.{view}
use Rattle.ybase_output.proofs.WritingLemmas.{writes_after, writes_same, left_failed, left_all}
use Rattle.ydiagram.proofs.LabelLemmas.{type_shown}
use Rattle.ydiagram.proofs.column.write_type.Goals as goal

pub returns-in_err-put-in-Some : goal.returns-in_err-put-in-Some
returns-in_err-put-in-Some g c =
    let r = c.from_residual.result in
    writes_same _ _ _ _ r (type_shown (view c.args.schema.now) c.args.shown c.in-Some.target.0 (leaf_type_view c.args.leaf_type.now) c.in-Some.ensures)
    (left_failed _ _ _ _ _ _ r c.from_residual.ensures.0 (left_all _ _) c.in_err-put-in-Some.ensures)

pub returns-in_ok-put-in-Some : goal.returns-in_ok-put-in-Some
returns-in_ok-put-in-Some g c =
    let r = c.write_path.result in
    writes_same _ _ _ _ r (type_shown (view c.args.schema.now) c.args.shown c.in-Some.target.0 (leaf_type_view c.args.leaf_type.now) c.in-Some.ensures)
    (writes_after _ _ _ _ _ r c.in_ok-put-in-Some.ensures c.write_path.ensures)

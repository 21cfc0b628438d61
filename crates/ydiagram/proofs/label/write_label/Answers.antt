use Rattle.std.proofs.Common.{refl}
use Rattle.yspec.specs.schema.Schema.{keys_in}
use Rattle.yschema_model.specs.Layout.{numbers_of}
use Rattle.yschema_model.specs.View.{view, node_view, kind_view}
use Rattle.ybase_output.proofs.WritingLemmas.{left_all, left_same, left_after, left_failed, left_last}
use Rattle.ydiagram.proofs.LabelLemmas.{label_parts}
use Rattle.ydiagram.proofs.label.write_label.Goals as goal

pub returns-in_err-write_name : goal.returns-in_err-write_name
returns-in_err-write_name g c =
    left_failed _ _ _ _ _ _ c.from_residual.result c.from_residual.ensures.0 (left_all _ _) c.in_err-write_name.ensures

pub returns-in_err-put : goal.returns-in_err-put
returns-in_err-put g c =
    left_failed _ _ _ _ _ _ c.from_residual-in_err-put.result c.from_residual-in_err-put.ensures.0
    (left_after _ _ _ _ _ _
    (left_same _ _ _ _ _ (label_parts (view c.args.schema.now) c.args.shown (node_view 0 c.args.node.now) c.option_mark.result.now (keys_in (kind_view c.args.node.now.kind)) c.option_mark.ensures refl) (left_all _ _))
    c.in_ok-write_name.ensures) c.in_err-put.ensures

pub returns : goal.returns
returns g c =
    left_last _ _ _ _ _ c.write_keys.result
    (left_after _ _ _ _ _ _ (left_after _ _ _ _ _ _
    (left_same _ _ _ _ _ (label_parts (view c.args.schema.now) c.args.shown (node_view 0 c.args.node.now) c.option_mark.result.now (numbers_of c.keys.result.now) c.option_mark.ensures c.keys.ensures) (left_all _ _))
    c.in_ok-write_name.ensures) c.in_ok-put.ensures) c.write_keys.ensures

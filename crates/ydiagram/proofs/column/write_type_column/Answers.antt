use Rattle.std.proofs.Common.{◌-◌, ◌∙◌, ap}
use Rattle.yschema_model.specs.Layout.{leaf_type_view}
use Rattle.yschema_model.specs.View.{view, node_view}
use Rattle.ybase_output.proofs.WritingLemmas.{left_all, left_same, left_after, left_failed, left_last}
use Rattle.ydiagram.proofs.LabelLemmas.{column_parts}
use Rattle.ydiagram.proofs.column.write_type_column.Goals as goal

pub returns-in_err-write_spaces : goal.returns-in_err-write_spaces
returns-in_err-write_spaces g c =
    left_failed _ _ _ _ _ _ c.from_residual.result c.from_residual.ensures.0
    (left_same _ _ _ _ _ (column_parts (view c.args.schema.now) c.args.shown c.args.width (node_view 0 c.args.node.now) (leaf_type_view c.in-Some.leaf_type.now) c.saturating_sub.result
    c.in-Some.ensures (c.saturating_sub.ensures ∙ ap (λ n. c.args.width - n) c.label_width.ensures)) (left_all _ _))
    c.in_err-write_spaces.ensures

pub returns-in_err-put : goal.returns-in_err-put
returns-in_err-put g c =
    left_failed _ _ _ _ _ _ c.from_residual-in_err-put.result c.from_residual-in_err-put.ensures.0
    (left_after _ _ _ _ _ _
    (left_same _ _ _ _ _ (column_parts (view c.args.schema.now) c.args.shown c.args.width (node_view 0 c.args.node.now) (leaf_type_view c.in-Some.leaf_type.now) c.saturating_sub.result
    c.in-Some.ensures (c.saturating_sub.ensures ∙ ap (λ n. c.args.width - n) c.label_width.ensures)) (left_all _ _))
    c.in_ok-write_spaces.ensures) c.in_err-put.ensures

pub returns : goal.returns
returns g c =
    left_last _ _ _ _ _ c.write_type.result
    (left_after _ _ _ _ _ _ (left_after _ _ _ _ _ _
    (left_same _ _ _ _ _ (column_parts (view c.args.schema.now) c.args.shown c.args.width (node_view 0 c.args.node.now) (leaf_type_view c.in-Some.leaf_type.now) c.saturating_sub.result
    c.in-Some.ensures (c.saturating_sub.ensures ∙ ap (λ n. c.args.width - n) c.label_width.ensures)) (left_all _ _))
    c.in_ok-write_spaces.ensures) c.in_ok-put.ensures) c.write_type.ensures

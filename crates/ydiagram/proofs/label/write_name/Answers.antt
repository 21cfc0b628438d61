use Rattle.std.proofs.Common.{sym, ◌∙◌}
use Rattle.yschema_model.specs.View.{view, node_view}
use Rattle.ybase_output.proofs.WritingLemmas.{left_all, left_same, left_after, left_failed, left_last}
use Rattle.ydiagram.proofs.LabelLemmas.{bracketed}
use Rattle.ydiagram.proofs.label.write_name.Goals as goal

pub returns-in_err-put : goal.returns-in_err-put
returns-in_err-put g c =
    left_failed _ _ _ _ _ _ c.from_residual.result c.from_residual.ensures.0
    (left_same _ _ _ _ _ (sym (bracketed (view c.args.schema.now) c.args.shown (node_view 0 c.args.node.now) (sym c.is_data.ensures ∙ c.if-is_data.false))) (left_all _ _))
    c.in_err-put.ensures

pub returns-in_err-write_prefixed : goal.returns-in_err-write_prefixed
returns-in_err-write_prefixed g c =
    left_failed _ _ _ _ _ _ c.from_residual-in_err-write_prefixed.result c.from_residual-in_err-write_prefixed.ensures.0
    (left_after _ _ _ _ _ _
    (left_same _ _ _ _ _ (sym (bracketed (view c.args.schema.now) c.args.shown (node_view 0 c.args.node.now) (sym c.is_data.ensures ∙ c.if-is_data.false))) (left_all _ _))
    c.in_ok-put.ensures) c.in_err-write_prefixed.ensures

pub returns : goal.returns
returns g c =
    left_last _ _ _ _ _ c.put-2.result
    (left_after _ _ _ _ _ _ (left_after _ _ _ _ _ _
    (left_same _ _ _ _ _ (sym (bracketed (view c.args.schema.now) c.args.shown (node_view 0 c.args.node.now) (sym c.is_data.ensures ∙ c.if-is_data.false))) (left_all _ _))
    c.in_ok-put.ensures) c.in_ok-write_prefixed.ensures) c.put-2.ensures

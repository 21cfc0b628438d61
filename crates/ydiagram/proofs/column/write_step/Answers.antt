use Rattle.std.proofs.Common.{sym, ◌∙◌}
use Rattle.yschema_model.specs.View.{view, node_view}
use Rattle.ybase_output.proofs.WritingLemmas.{writes_after, writes_same, left_failed, left_all}
use Rattle.ydiagram.proofs.LabelLemmas.{step_shown}
use Rattle.ydiagram.proofs.column.write_step.Goals as goal

pub returns-in_err-put-in-Some : goal.returns-in_err-put-in-Some
returns-in_err-put-in-Some g c =
    let r = c.from_residual.result in
    writes_same _ _ _ _ r
    (step_shown (view c.args.schema.now) c.args.shown c.args.id.0 (node_view c.args.id.0 c.in-Some.node.now) c.in-Some.ensures (sym c.is_data.ensures ∙ c.if-is_data.true))
    (left_failed _ _ _ _ _ _ r c.from_residual.ensures.0 (left_all _ _) c.in_err-put-in-Some.ensures)

pub returns-in_ok-put-in-Some : goal.returns-in_ok-put-in-Some
returns-in_ok-put-in-Some g c =
    let r = c.write_prefixed.result in
    writes_same _ _ _ _ r
    (step_shown (view c.args.schema.now) c.args.shown c.args.id.0 (node_view c.args.id.0 c.in-Some.node.now) c.in-Some.ensures (sym c.is_data.ensures ∙ c.if-is_data.true))
    (writes_after _ _ _ _ _ r c.in_ok-put-in-Some.ensures c.write_prefixed.ensures)

use Rattle.yschema_model.specs.View.{view, node_view}
use Rattle.yinst_tree.specs.View.{step_view}
use Rattle.ybase_output.proofs.WritingLemmas.{writes_after, writes_same, left_failed, left_all}
use Rattle.ycheck.proofs.LineLemmas.{named_step}
use Rattle.ycheck.proofs.lines.write_step.Goals as goal

pub returns-in_err-write_name-in-Some : goal.returns-in_err-write_name-in-Some
returns-in_err-write_name-in-Some g c =
    let r = c.from_residual.result in
    writes_same _ _ _ _ r
    (named_step (view c.args.schema.now) c.args.parent_module (step_view c.args.step.now) (node_view c.args.step.now.id.0 c.in-Some.node.now) c.in-Some.ensures)
    (left_failed _ _ _ _ _ _ r c.from_residual.ensures.0 (left_all _ _) c.in_err-write_name-in-Some.ensures)

pub returns-in_ok-write_name-in-Some : goal.returns-in_ok-write_name-in-Some
returns-in_ok-write_name-in-Some g c =
    let r = c.write_position.result in
    writes_same _ _ _ _ r
    (named_step (view c.args.schema.now) c.args.parent_module (step_view c.args.step.now) (node_view c.args.step.now.id.0 c.in-Some.node.now) c.in-Some.ensures)
    (writes_after _ _ _ _ _ r c.in_ok-write_name-in-Some.ensures c.write_position.ensures)

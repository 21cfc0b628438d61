use Rattle.std.proofs.Common.{ℕ, Option, drop, ◌+◌, ap, sym}
use Rattle.std.proofs.lemmas.List.{at_drop_all, at_drop_more}
use Rattle.yspec.specs.document.Path.{path_from}
use Rattle.ybase_output.proofs.WritingLemmas.{left_all, left_same, left_after, left_none, left_failed, wrote_same, writes_same}
use Rattle.yschema_model.specs.View.{view}
use Rattle.yinst_tree.specs.View.{place_view}
use Rattle.ycheck.proofs.LineLemmas.{path_of_some}
use Rattle.ycheck.proofs.lines.write_path.Goals as goal

pub loop-step-init : goal.loop-step-init
loop-step-init g c = left_all _ _

pub loop-step-preserved : goal.loop-step-preserved
loop-step-preserved g c =
    let s = view c.args.schema.now in
    left_same _ _ _ _ _ (sym (ap (λ (p : Option ℕ). path_from s p (place_view (drop (c.loop-step.step-index + 1) c.args.steps.now))) c.module_after-parent_module.ensures))
    (left_after _ _ _ _ _ _ (left_same _ _ _ _ _
    (at_drop_more (λ xs. path_from s c.loop-step.parent_module (place_view xs)) c.args.steps.now c.loop-step.step-index _ c.loop-step-test.true)
    c.loop-step.invariant) c.in_ok-write_step.ensures)

pub returns : goal.returns
returns g c =
    let s = view c.args.schema.now in
    wrote_same _ _ _ _ (path_of_some s c.args.steps.now c.if-is_empty.ensures)
    (left_none _ _ _ (left_same _ _ _ _ _
    (at_drop_all (λ xs. path_from s c.loop-step.parent_module (place_view xs)) c.args.steps.now c.loop-step.step-index c.loop-step-test.false)
    c.loop-step.invariant))

pub returns-in_err-write_step : goal.returns-in_err-write_step
returns-in_err-write_step g c =
    let s = view c.args.schema.now in
    writes_same _ _ _ _ c.from_residual.result (path_of_some s c.args.steps.now c.if-is_empty.ensures)
    (left_failed _ _ _ _ _ _ c.from_residual.result c.from_residual.ensures.0 (left_same _ _ _ _ _
    (at_drop_more (λ xs. path_from s c.loop-step.parent_module (place_view xs)) c.args.steps.now c.loop-step.step-index _ c.loop-step-test.true)
    c.loop-step.invariant) c.in_err-write_step.ensures)

use Rattle.std.proofs.lemmas.List.{at_drop_all, at_drop_more}
use Rattle.ybase_output.proofs.WritingLemmas.{left_all, left_same, left_after, left_none, left_failed}
use Rattle.std.proofs.Common.{map}
use Rattle.std.specs.List.{flat_map}
use Rattle.ysay_codes.specs.Codes.{explained}
use Rattle.ysay_codes.specs.View.{explanation_view}
use Rattle.yapp_report.proofs.report.write_explanations.Goals as goal

pub loop-explanation-init : goal.loop-explanation-init
loop-explanation-init g c = left_all _ _

pub loop-explanation-preserved : goal.loop-explanation-preserved
loop-explanation-preserved g c = left_after _ _ _ _ _ _ (left_same _ _ _ _ _
    (at_drop_more (λ es. flat_map explained (map (λ e. explanation_view e.now) es)) c.args.explanations.now c.loop-explanation.explanation-index _ c.loop-explanation-test.true)
    c.loop-explanation.invariant) c.in_ok-write_explanation.ensures

pub returns : goal.returns
returns g c = left_none _ _ _ (left_same _ _ _ _ _
    (at_drop_all (λ es. flat_map explained (map (λ e. explanation_view e.now) es)) c.args.explanations.now c.loop-explanation.explanation-index c.loop-explanation-test.false)
    c.loop-explanation.invariant)

pub returns-in_err-write_explanation : goal.returns-in_err-write_explanation
returns-in_err-write_explanation g c = left_failed _ _ _ _ _ _ c.from_residual.result c.from_residual.ensures.0 (left_same _ _ _ _ _
    (at_drop_more (λ es. flat_map explained (map (λ e. explanation_view e.now) es)) c.args.explanations.now c.loop-explanation.explanation-index _ c.loop-explanation-test.true)
    c.loop-explanation.invariant) c.in_err-write_explanation.ensures

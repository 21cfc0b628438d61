use Rattle.std.proofs.Common.{drop, map}
use Rattle.std.specs.List.{flat_map}
use Rattle.ysay_codes.specs.Codes.{explained}
use Rattle.ysay_codes.specs.View.{explanation_view}
use Rattle.ybase_output.specs.Writing.{side}
use Rattle.ybase_output.proofs.WritingLemmas.{Left}
use Rattle.yapp_report.proofs.report.write_explanations.Given as goal

abbrev pub invariant-loop-explanation : goal.invariant-loop-explanation
invariant-loop-explanation g l = Left (side g.S.Sink.taken g.S.Sink.failures l.fn.sink) (side g.S.Sink.taken g.S.Sink.failures l.sink)
    (flat_map explained (map (λ e. explanation_view e.now) l.explanations))
    (flat_map explained (map (λ e. explanation_view e.now) (drop l.explanation-index l.explanations)))

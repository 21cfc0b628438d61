use Rattle.std.proofs.Common.{Bool, ap}
use Rattle.yspec_run.specs.Output.{aside_where}
use Rattle.ybase_output.proofs.WritingLemmas.{left_all, left_after, left_failed, left_last, left_same}
use Rattle.yapp_report.specs.Failing.{besides_in, outcome_of}
use Rattle.yapp_report.proofs.failure.Failure.write.Goals as goal

pub returns-in_err-write_part : goal.returns-in_err-write_part
returns-in_err-write_part g c = left_failed _ _ _ _ _ _ c.from_residual.result c.from_residual.ensures.0 (left_all _ _) c.in_err-write_part.ensures

pub returns-then-with_reasons : goal.returns-then-with_reasons
returns-then-with_reasons g c = left_last _ _ _ _ _ c.write_aside.result
    (left_same _ _ _ _ _ (ap (λ (b : Bool). aside_where b (besides_in c.args.self.now) (outcome_of c.args.self.now).aside) c.if-with_reasons.true)
    (left_after _ _ _ _ _ _ (left_all _ _) c.in_ok-write_part.ensures))
    c.write_aside.ensures

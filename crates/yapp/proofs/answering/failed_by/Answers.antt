use Rattle.std.proofs.Common.{Bool, map, sym, subst}
use Rattle.yspec_run.specs.Lines as spec
use Rattle.yapp_report.specs.Failing.{FailsWith, besides_in}
use Rattle.yapp.proofs.answering.failed_by.Goals as goal

pub returns-in-Ok : goal.returns-in-Ok
returns-in-Ok c = λ request o files fails.
    subst (λ (b : Bool). FailsWith c.in-Ok.failure (spec.told_by b (besides_in c.args.failure) request (map (λ t. t.items) c.args.contents.now) o)) (sym c.if-by_lines.true)
    (c.in-Ok.ensures.told request o files fails)

pub returns-in-Err : goal.returns-in-Err
returns-in-Err c = λ request o files fails. tt

pub returns-else-by_lines : goal.returns-else-by_lines
returns-else-by_lines c = λ request o files fails.
    subst (λ (b : Bool). FailsWith c.args.failure (spec.told_by b (besides_in c.args.failure) request (map (λ t. t.items) c.args.contents.now) o)) (sym c.if-by_lines.false) fails

use Rattle.std.proofs.Common.{Bool, ap, string_bytes, sym, ◌||◌, ◌∙◌}
use Rattle.yspec_opening.specs.Closing.{is_refusal}
use Rattle.yapp_talk.proofs.SavingLemmas.{on_err}
use Rattle.yapp_talk.proofs.watching.WatchedAnswerer.answer.Goals as goal
use Rattle.yapp_talk.proofs.watching.WatchedAnswerer.answer.Goals.{else-self, then-self}

pub returns-in_err-answer-clause-err : goal.returns-in_err-answer-clause-err
returns-in_err-answer-clause-err g c = on_err c.from_residual.result _ c.in_err-answer.ensures.err

pub returns-clause-ok : goal.returns-clause-ok
returns-clause-ok g c =
    let kept = c.in_ok-answer.ensures.ok in
    let refuses = is_refusal (string_bytes c.in_ok-answer.answer) in (
      kept.0,
      record {
        answers = kept.1;
        watches = elim c.if-self.branch [
          | then-self w ↦ w.self-is ∙ (w.if-self.true ∙ sym (ap (λ (b : Bool). b || refuses) w.if-self.true))
          | else-self w ↦ w.self-is ∙ (w.is_refusal-self.ensures ∙ (ap is_refusal w.as_str.ensures.value
              ∙ sym (ap (λ (b : Bool). b || refuses) w.if-self.false)))
        ];
      },
      kept.2,
    )

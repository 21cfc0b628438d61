use Rattle.std.proofs.Common.{ap, ◌∙◌}
use Rattle.std.proofs.lemmas.Result.{IfOk-weaker}
use Rattle.ysay_edit.specs.Predicate.{keyed}
use Rattle.ysay_edit.proofs.predicate.keys_due.Goals as goal

pub returns : goal.returns
returns c = IfOk-weaker c.keyed.result _ _ (λ text e. e ∙ ap (keyed c.args.name.now) (c.as_str.ensures.value ∙ c.in_ok-due.ensures)) c.keyed.ensures

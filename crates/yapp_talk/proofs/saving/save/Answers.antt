use Rattle.std.proofs.Common.{string_bytes}
use Rattle.std.proofs.lemmas.Result.{IfOk-weaker}
use Rattle.ylive.specs.View.{view}
use Rattle.yapp_talk.proofs.SavingLemmas.{as_it_is, as_short, on_err}
use Rattle.yapp_talk.proofs.saving.save.Goals as goal

pub returns-in-Ok-clause-ok : goal.returns-in-Ok-clause-ok
returns-in-Ok-clause-ok g c = as_it_is (view c.args.live.now) c.args.file.now (string_bytes c.in-Ok.text) _ _ c.in-Ok.ensures.ok

pub returns-in-Err-clause-ok : goal.returns-in-Err-clause-ok
returns-in-Err-clause-ok g c = IfOk-weaker c.short_text.result _ _
    (λ text said. as_short (view c.args.live.now) c.args.file.now (string_bytes text) _ _ c.in-Err.ensures.err said) c.short_text.ensures

pub returns-in-Err-clause-err : goal.returns-in-Err-clause-err
returns-in-Err-clause-err g c = on_err c.short_text.result _ c.in-Err.ensures.err

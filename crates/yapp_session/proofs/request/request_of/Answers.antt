use Rattle.std.proofs.Common.{subst, IfOk}
use Rattle.yapp_session.specs.Asked.{Asks}
use Rattle.yapp_session.proofs.RequestLemmas.{asked_by_bytes, asked_by_text}
use Rattle.yapp_session.proofs.request.request_of.Goals as goal

pub returns-in-Ok : goal.returns-in-Ok
returns-in-Ok c = subst (λ asked. IfOk c.request_in.result (λ found. Asks found asked))
    (asked_by_text c.args.line.now c.in-Ok.text.now c.in-Ok.ensures.cases.0 c.in-Ok.ensures.cases.1) c.request_in.ensures

pub returns-in-Err : goal.returns-in-Err
returns-in-Err c = asked_by_bytes c.args.line.now c.in-Err.ensures.cases.0

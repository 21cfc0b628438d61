use Rattle.std.proofs.Common.{subst}
use Rattle.std.specs.Prelude.{string_bytes}
use Rattle.yspec_session.specs.Requests.{request_of}
use Rattle.ylive.specs.View.{view}
use Rattle.yapp_session.specs.View.{past_view}
use Rattle.yapp_session.specs.Asked.{Asks, request_view}
use Rattle.yapp_session.specs.Answered.{Says, Told, configured_view}
use Rattle.yapp_session.proofs.LineLemmas.{said}
use Rattle.yapp_session.proofs.TextLemmas.{if_ok}
use Rattle.yapp_session.proofs.session.answer_line.Goals as goal

pub returns-in-Some-clause-answer : goal.returns-in-Some-clause-answer
returns-in-Some-clause-answer c =
    let before = view c.args.live.now in
    let k = past_view c.args.past.now in
    let after = view c.reply.new.live in
    let l = past_view c.reply.new.past in
    let asks = subst (λ found. Asks found (request_of c.args.line.now)) c.in-Some.is c.in_ok-request.ensures in
    if_ok (λ text. Told c.args.tells_changes (configured_view c.args.configured.now) c.args.limit before k (request_view c.in-Some.request) (string_bytes text) after l)
    (λ text. Says c.args.tells_changes (configured_view c.args.configured.now) c.args.limit before k (request_of c.args.line.now) (string_bytes text) after l)
    (λ text told. said c.args.tells_changes (configured_view c.args.configured.now) c.args.limit before k (string_bytes text) after l c.in-Some.request (request_of c.args.line.now) asks told) c.reply.result
    c.reply.ensures.answer

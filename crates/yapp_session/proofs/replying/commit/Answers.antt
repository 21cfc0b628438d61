use Rattle.std.proofs.Common.{sym, ap, ◌∙◌}
use Rattle.std.specs.Prelude.{option_map, string_bytes}
use Rattle.yspec_session.specs.Session as spec
use Rattle.yspec_session.specs.Remembering.{joined}
use Rattle.ysay_session.specs.AnswerText.{done_text}
use Rattle.ylive.specs.View.{view}
use Rattle.yapp_session.specs.View.{past_view, since_view}
use Rattle.yapp_session.specs.Answered.{configured_view}
use Rattle.yapp_session.proofs.ReplyLemmas.{commits_now, replies_as}
use Rattle.yapp_session.proofs.replying.commit.Goals as goal

pub returns-clause-answer : goal.returns-clause-answer
returns-clause-answer c =
    let live = view c.args.live.now in
    let k = past_view c.args.past.now in
    let since = since_view c.in-Some.since in
    replies_as c.args.tells_changes (configured_view c.args.configured.now) c.args.limit live live k (past_view c.commit.new.self) (joined c.args.limit since k) spec.commit (string_bytes c.in_ok-text.text) done_text
    c.in_ok-text.ensures c.in_ok-commit.ensures.ok
    (commits_now c.args.tells_changes (configured_view c.args.configured.now) c.args.limit live k since (sym c.begun.ensures ∙ ap (option_map since_view) c.in-Some.is))

use Rattle.yapp_words.specs.Command.{opening_view}
use Rattle.yapp.proofs.SessionLemmas.{session_held, session_refused}
use Rattle.yapp.proofs.opening.hold_session.Goals as goal

pub returns-in-Ok-clause-session : goal.returns-in-Ok-clause-session
returns-in-Ok-clause-session g c = session_held _ _ (opening_view c.args.opening.now) c.args.with_reasons _ _ _ _ _ _ _ _ _ _ c.in-Ok.ensures.opens
    c.as_str.ensures.value c.talk.ensures

pub returns-in-Err-clause-session : goal.returns-in-Err-clause-session
returns-in-Err-clause-session g c = session_refused _ _ (opening_view c.args.opening.now) c.args.with_reasons _ _ _ _ _ c.in-Err.failure _
    c.in-Err.ensures.opens c.tell_failure.ensures.tells

use Rattle.std.proofs.Common.{refl, ap}
use Rattle.std.specs.Prelude.{string_bytes}
use Rattle.yspec_session.specs.Session as spec
use Rattle.yinst_path.specs.EditView.{path_view}
use Rattle.ylive.specs.View.{view}
use Rattle.yapp_session.specs.View.{past_view}
use Rattle.yapp_session.specs.Asked.{request_view}
use Rattle.yapp_session.specs.Answered.{configured_view}
use Rattle.yapp_session.proofs.QuestionLemmas.{told_question}
use Rattle.yapp_session.proofs.TextLemmas.{if_ok}
use Rattle.yapp_session.proofs.session.reply.Goals as goal

pub returns-in-Below-clause-answer : goal.returns-in-Below-clause-answer
returns-in-Below-clause-answer c =
    if_ok _ _ (λ text said. told_question c.args.tells_changes (configured_view c.args.configured.now) c.args.limit (view c.args.live.now) _ (past_view c.args.past.now) _ (request_view c.args.request) (spec.below (path_view c.in-Below.path))
    (string_bytes text) (ap request_view c.in-Below.is) refl refl (said c.args.tells_changes c.args.limit (past_view c.args.past.now))) c.below.result c.below.ensures

pub returns-in-Value-clause-answer : goal.returns-in-Value-clause-answer
returns-in-Value-clause-answer c =
    if_ok _ _ (λ text said. told_question c.args.tells_changes (configured_view c.args.configured.now) c.args.limit (view c.args.live.now) _ (past_view c.args.past.now) _ (request_view c.args.request) (spec.value (path_view c.in-Value.path))
    (string_bytes text) (ap request_view c.in-Value.is) refl refl (said c.args.tells_changes (configured_view c.args.configured.now) c.args.limit (past_view c.args.past.now))) c.value.result c.value.ensures

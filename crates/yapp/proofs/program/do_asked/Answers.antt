use Rattle.std.proofs.Common.{ap, refl, sym}
use Rattle.yspec_opening.specs.Opening.{report, session}
use Rattle.yapp_words.specs.Command.{asked_view, opening_view, view}
use Rattle.yapp.specs.Files.{came_to, said_besides}
use Rattle.yapp.proofs.RunningLemmas.{run_comes}
use Rattle.yapp.proofs.SessionLemmas.{does_same}
use Rattle.yapp.proofs.program.do_asked.Goals as goal

pub returns-in-Report-clause-does : goal.returns-in-Report-clause-does
returns-in-Report-clause-does g c =
    let request = view c.in-Report.request in
    let came = run_comes c.in-Report.by_lines _ _ request request _ _ _ _ _ c.args.with_reasons _ (said_besides c.answer.result) (came_to c.answer.result) _
    refl refl c.is_json.ensures c.answer.ensures.found c.tell.ensures.tells in
    does_same _ _ (report c.in-Report.by_lines request) _ _ _ _ _ _ _ _ _ _ (sym (ap asked_view c.in-Report.is)) refl (refl, came.0, came.1, came.2, came.3)

pub returns-in-Session-clause-does : goal.returns-in-Session-clause-does
returns-in-Session-clause-does g c =
    does_same _ _ (session (opening_view c.in-Session.opening)) _ _ _ _ _ _ _ _ _ _ (sym (ap asked_view c.in-Session.is)) refl c.hold_session.ensures.session

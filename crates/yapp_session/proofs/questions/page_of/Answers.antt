use Rattle.std.proofs.Common.{sym, ap, ◌∙◌}
use Rattle.yspec_session.specs.Session as spec
use Rattle.ycheck.specs.View as faults
use Rattle.yapp_session.proofs.ListLemmas.{behind_viewed, page_viewed}
use Rattle.yapp_session.proofs.questions.page_of.Goals as goal

pub returns-in-Some : goal.returns-in-Some
returns-in-Some c =
    page_viewed faults.view c.args.behind c.in-Some.count c.args.faults.now c.items_behind-rest.result.now c.first_items.result.now c.items_behind-rest.ensures
    c.first_items.ensures
    ∙ sym (ap (λ count. spec.page c.args.behind count (faults.views c.args.faults.now)) c.in-Some.is)

pub returns-in-None : goal.returns-in-None
returns-in-None c =
    behind_viewed faults.view c.args.behind c.args.faults.now c.items_behind-rest.result.now c.items_behind-rest.ensures
    ∙ sym (ap (λ count. spec.page c.args.behind count (faults.views c.args.faults.now)) c.in-None.is)

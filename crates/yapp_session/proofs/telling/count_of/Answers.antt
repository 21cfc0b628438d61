use Rattle.std.proofs.Common.{◌≡◌, rules, length, sym, ap, ◌∙◌}
use Rattle.std.proofs.lemmas.List.{length-map}
use Rattle.ycheck.specs.View as faults
use Rattle.ylive.specs.View.{view}
use Rattle.yapp_session.specs.Answered.{configured_view, told_count}
use Rattle.yapp_session.proofs.telling.count_of.Goals as goal

pub returns-in_ok-faults-in-Some-clause-counted : goal.returns-in_ok-faults-in-Some-clause-counted
returns-in_ok-faults-in-Some-clause-counted c fresh =
    let counted : c.len.result ≡ length c.in_ok-faults-in-Some.faults.items = search rules in
    counted ∙ (sym (length-map c.in_ok-faults-in-Some.faults.items faults.view) ∙ (ap length c.in_ok-faults-in-Some.ensures
    ∙ sym (ap (λ configured. told_count (configured_view configured) (view c.args.live.now)) c.in-Some.is)))

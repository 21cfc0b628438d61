use Rattle.std.proofs.Common.{◌≡◌, true, ap, sym, ◌∙◌}
use Rattle.yschema_plan.specs.Needs.{is_told, must_stand, stands_in, told_above}
use Rattle.yschema_plan.specs.PlannedView.{planned_view}
use Rattle.yschema_plan.proofs.NeedLemmas.{above_none}
use Rattle.yschema_plan.proofs.needs.tell_above.Goals as goal
use Rattle.yschema_plan.proofs.needs.tell_above.Goals.{After-must_stand}

-- whether it must be stored, by what it is told
must : (c : After-must_stand) → c.must_stand.result
    ≡ must_stand (stands_in c.args.standing.now) (planned_view c.args.number c.args.row.now.label) (is_told c.args.told.now.items c.args.number)
must c = c.must_stand.ensures
    ∙ ap (λ told. must_stand (stands_in c.args.standing.now) (planned_view c.args.number c.args.row.now.label) (is_told told c.args.number)) c.deref.ensures.value

pub returns-then-not-must_stand : goal.returns-then-not-must_stand
returns-then-not-must_stand c =
    let told = c.args.told.now.items in
    let parent = c.args.row.now.parent in
    sym (above_none parent told) ∙ ap (λ b. told_above parent b told)
    (sym c.if-not-must_stand.true ∙ must (goal.at.returns-then-not-must_stand c).After-must_stand)

pub returns-in-Some : goal.returns-in-Some
returns-in-Some c =
    let told = c.args.told.now.items in
    c.mark.ensures
    ∙ (ap (λ p. told_above p true told) (sym c.in-Some.is)
    ∙ ap (λ b. told_above c.args.row.now.parent b told) (sym c.if-not-must_stand.false ∙ must (goal.at.returns-in-Some c).After-must_stand))

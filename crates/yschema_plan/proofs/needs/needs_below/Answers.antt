use Rattle.std.proofs.Common.{◌≡◌, false, drop, length, replicate, ap, ◌∙◌, arith}
use Rattle.ybase_preorder.specs.Layout.{laid, seen}
use Rattle.yschema_plan.specs.Needs.{stands_in, told_by}
use Rattle.yschema_plan.specs.PlannedView.{planned_view}
use Rattle.yschema_plan.proofs.NeedLemmas.{all_told}
use Rattle.yschema_plan.proofs.needs.needs_below.Goals as goal

pub returns : goal.returns
returns c nodes shows =
    let stands = stands_in c.args.standing.now in
    let rows = c.slots-rows.result.now in
    let none : c.loop-number.number ≡ 0 = omega (arith, c.loop-number-test.false) in
    c.loop-number.invariant
    ∙ (ap (λ n. told_by stands n (seen planned_view n (laid (drop n rows))) (replicate (length rows) false)) none
    ∙ (ap (λ xs. told_by stands 0 (seen planned_view 0 (laid xs)) (replicate (length xs) false)) c.slots-rows.ensures
    ∙ all_told stands nodes _ shows))

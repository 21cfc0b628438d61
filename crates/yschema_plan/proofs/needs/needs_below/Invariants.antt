use Rattle.std.proofs.Common.{◌≡◌, false, length, drop, replicate}
use Rattle.ybase_preorder.specs.Layout.{laid, seen}
use Rattle.yschema_plan.specs.Needs.{stands_in, told_by}
use Rattle.yschema_plan.specs.PlannedView.{planned_view}
use Rattle.yschema_plan.proofs.needs.needs_below.Given as goal

-- those from a number on have told
abbrev pub invariant-loop-number : goal.invariant-loop-number
invariant-loop-number l = l.told.items
    ≡ told_by (stands_in l.standing) l.number (seen planned_view l.number (laid (drop l.number l.rows))) (replicate (length l.rows) false)

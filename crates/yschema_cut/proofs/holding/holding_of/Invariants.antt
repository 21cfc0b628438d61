use Rattle.std.proofs.Common.{◌≡◌, ◌++◌, drop}
use Rattle.ylink_standing.specs.ConditionView.{holds_at, is_in}
use Rattle.yschema_cut.specs.Cutting.{told_from}
use Rattle.yschema_cut.proofs.holding.holding_of.Given as goal

-- those so far, and the others
abbrev pub invariant-loop-number : goal.invariant-loop-number
invariant-loop-number l =
    l.holding.items ++ told_from (holds_at l.features.conditions.items (is_in l.features.on.items)) l.number (drop l.number l.slots)
    ≡ told_from (holds_at l.features.conditions.items (is_in l.features.on.items)) 0 l.slots

use Rattle.std.proofs.Common.{◌≡◌, ◌++◌, drop}
use Rattle.ybase_preorder.specs.Layout.{laid}
use Rattle.yschema_cut.specs.Totals.{standing_in}
use Rattle.yschema_cut.proofs.totals.standing_of.Given as goal

-- those so far, and the others
abbrev pub invariant-loop-number : goal.invariant-loop-number
invariant-loop-number g l =
    l.standing.items ++ standing_in l.totals l.number (laid (drop l.number l.slots)) ≡ standing_in l.totals 0 (laid l.slots)

use Rattle.std.proofs.Common.{◌≡◌, ◌++◌, drop}
use Rattle.yschema_cut.specs.Defaults.{off_in}
use Rattle.yschema_expand.specs.NodeView.{numbered_part}
use Rattle.yschema_cut.proofs.defaults.defaults_off.Given as goal

-- those so far, and the others
abbrev pub invariant-loop-number : goal.invariant-loop-number
invariant-loop-number l =
    l.off.items ++ off_in numbered_part l.standing l.number (drop l.number l.slots) ≡ off_in numbered_part l.standing 0 l.slots

use Rattle.std.proofs.Common.{◌≡◌, drop}
use Rattle.ybase_preorder.specs.Layout.{laid, seen}
use Rattle.yschema_cut.specs.Defaults.{with_off, with_off_from}
use Rattle.yschema_expand.specs.NodeView.{numbered_part}
use Rattle.yschema_cut.proofs.defaults.lose_defaults.Given as goal

-- what the others lose is left
abbrev pub invariant-loop-number : goal.invariant-loop-number
invariant-loop-number l =
    with_off_from l.number (drop l.number l.off) (seen numbered_part 0 (laid l.slots.items)) ≡ with_off l.off (seen numbered_part 0 (laid l.fn.slots.items))

use Rattle.std.proofs.Common.{◌≡◌, ◌++◌, drop, map}
use Rattle.yschema_expand.specs.NodeView.{part_view}
use Rattle.yschema_given.specs.Holding.{holds_in, kept_hold}
use Rattle.yschema_cut.proofs.nodes.own_holding_of.Given as goal

-- those so far, and the others
abbrev pub invariant-loop-slot : goal.invariant-loop-slot
invariant-loop-slot l =
    l.held.items ++ map (λ r. kept_hold (holds_in l.holding) (part_view r.label).own) (drop l.slot-index l.slots)
    ≡ map (λ r. kept_hold (holds_in l.holding) (part_view r.label).own) l.slots

use Rattle.std.proofs.Common.{◌≡◌, take}
use Rattle.yschema_expand.specs.NodeView.{plain_part}
use Rattle.yschema_given.specs.GivenView.{stated_after}
use Rattle.yschema_given.specs.Holding.{holds_in, kept_hold}
use Rattle.yschema_cut.proofs.nodes.holds.Given as goal

-- with all that is given so far
abbrev pub invariant-loop-given : goal.invariant-loop-given
invariant-loop-given l =
    l.holds ≡ kept_hold (holds_in l.holding) (stated_after (plain_part l.node).own (take l.given-index l.given-items))

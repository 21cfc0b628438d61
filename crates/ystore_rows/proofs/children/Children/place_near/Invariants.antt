use Rattle.std.proofs.Common.{◌-◌, drop, map, take}
use Rattle.ystore_rows.specs.Children.{nodes_of}
use Rattle.ystore_rows.specs.Rows.{Child}
use Rattle.ystore_rows.proofs.NearLemmas.{NoneNear}
use Rattle.ystore_rows.proofs.children.Children.place_near.Given as goal

-- the node is none of those that were looked at
abbrev pub invariant-loop-step : goal.invariant-loop-step
invariant-loop-step l =
    NoneNear l.fn.node (map (λ (c : Child). c.1) (take (l.fn.end - l.fn.first) (drop l.fn.first (nodes_of l.self)))) l.near l.step

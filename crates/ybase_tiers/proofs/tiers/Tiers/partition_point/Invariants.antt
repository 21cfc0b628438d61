use Rattle.std.proofs.Common.{Bool, ◌+◌, ◌≤◌, ◌<◌}
use Rattle.std.specs.Fn.{ComputesKey}
use denote.Param.Always.{always_mut}
use Rattle.ybase_tiers.specs.Tiers.{count_of, tiered}
use Rattle.ybase_tiers.proofs.HalfLemmas.{Halved}
use Rattle.ybase_tiers.proofs.tiers.Tiers.partition_point.Given as goal

abbrev pub invariant-loop-size : goal.invariant-loop-size
invariant-loop-size g l =
    (0 < l.size) × (l.base + l.size ≤ count_of l.self) × always_mut g.P.FnMut l.pred
    × ((p : g.row.T.Denot → Bool) → ComputesKey g.P.FnMut p l.initial.pred → ComputesKey g.P.FnMut p l.pred × Halved p (tiered l.self) l.base l.size)

abbrev pub decreases-loop-size : goal.decreases-loop-size
decreases-loop-size g l = l.size

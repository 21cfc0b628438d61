use Rattle.std.proofs.Common.{◌≡◌, drop, map}
use Rattle.ytext.specs.View.{row_view}
use Rattle.ysay_types.specs.Chain.{defaults_of}
use Rattle.ysay_types.proofs.chain.defaults_of.Given as goal

abbrev pub invariant-loop-row : goal.invariant-loop-row
invariant-loop-row l = defaults_of (map (λ r. row_view r.now) (drop l.row-index l.rows)) ≡ defaults_of (map (λ r. row_view r.now) l.rows)

use Rattle.std.proofs.Common.{◌≡◌, drop}
use Rattle.ytext.specs.View.{modules_view}
use Rattle.ysay_sets.specs.Taken.{has_two}
use Rattle.ysay_sets.proofs.taken.has_two.Given as goal

abbrev pub invariant-loop-place : goal.invariant-loop-place
invariant-loop-place l = has_two l.name (modules_view (drop l.place l.modules)) ≡ has_two l.name (modules_view l.modules)

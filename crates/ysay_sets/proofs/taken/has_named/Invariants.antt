use Rattle.std.proofs.Common.{◌≡◌, drop}
use Rattle.ytext.specs.View.{modules_view}
use Rattle.ysay_sets.specs.Taken.{has_named}
use Rattle.ysay_sets.proofs.taken.has_named.Given as goal

abbrev pub invariant-loop-module : goal.invariant-loop-module
invariant-loop-module l = has_named l.name (modules_view (drop l.module-index l.modules)) ≡ has_named l.name (modules_view l.modules)

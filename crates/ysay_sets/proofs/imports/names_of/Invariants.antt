use Rattle.std.proofs.Common.{◌≡◌, ◌++◌, drop, map}
use Rattle.ytext.specs.View.{modules_view}
use Rattle.ysay_sets.specs.Imports.{names_of}
use Rattle.ysay_sets.proofs.imports.names_of.Given as goal

abbrev pub invariant-loop-module : goal.invariant-loop-module
invariant-loop-module l = map (λ t. t.now) l.names.items ++ names_of (modules_view (drop l.module-index l.modules)) ≡ names_of (modules_view l.fn.modules)

use Rattle.std.proofs.Common.{◌≡◌, drop}
use Rattle.ytext.specs.View.{modules_view}
use Rattle.ysay_names.specs.Names.{module_named}
use Rattle.ysay_names.proofs.named.module_named.Given as goal

abbrev pub invariant-loop-module : goal.invariant-loop-module
invariant-loop-module l = module_named l.name (modules_view (drop l.module-index l.modules)) ≡ module_named l.name (modules_view l.fn.modules)

use Rattle.std.proofs.Common.{◌≡◌, [], drop, map}
use Rattle.yspec.specs.schema.Breaks.{least_from, module_breaks}
use Rattle.ytext.specs.View.{modules_view}
use Rattle.ylink_grammar.specs.BreakView.{seen}
use Rattle.ylink.proofs.repeated.repeated_module.Given as goal

abbrev pub invariant-loop-module : goal.invariant-loop-module
invariant-loop-module l =
    least_from (seen l.told) (module_breaks l.«module» (map (λ k. k.now) l.names.keys) (modules_view (drop l.«module» l.modules)))
    ≡ least_from (seen l.fn.so_far) (module_breaks 0 [] (modules_view l.modules))

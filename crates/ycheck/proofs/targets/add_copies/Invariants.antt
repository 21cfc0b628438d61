use Rattle.std.proofs.Common.{drop}
use Rattle.ycheck.specs.Targets.{some_values}
use Rattle.ycheck.proofs.TargetLemmas.{Still}
use Rattle.ycheck.proofs.targets.add_copies.Given as goal

-- the values so far with those that are left
abbrev pub invariant-loop-value : goal.invariant-loop-value
invariant-loop-value l = Still l.fn.targets l.targets (some_values l.id.0 l.values) (some_values l.id.0 (drop l.value-index l.values))

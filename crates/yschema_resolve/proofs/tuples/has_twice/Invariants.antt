use Rattle.std.proofs.Common.{◌≡◌, drop}
use Rattle.yspec.specs.linking.NodeBreaks.{has_twice}
use Rattle.yschema_resolve.proofs.TupleLemmas.{twice_from}
use Rattle.yschema_resolve.proofs.tuples.has_twice.Given as goal

abbrev pub invariant-loop-number : goal.invariant-loop-number
invariant-loop-number l = twice_from l.met (drop l.number-index l.numbers) ≡ has_twice l.numbers

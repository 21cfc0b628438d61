use Rattle.std.proofs.Common.{◌≡◌, ◌++◌, drop}
use Rattle.yschema_model.specs.Layout.{numbers_of}
use Rattle.yschema_resolve.proofs.tuples.ids_of.Given as goal

abbrev pub invariant-loop-number : goal.invariant-loop-number
invariant-loop-number l = numbers_of l.ids.items ++ drop l.number-index l.numbers ≡ l.numbers

use Rattle.std.proofs.Common.{◌≡◌, drop}
use Rattle.yschema_types.specs.Marks.{marked}
use Rattle.yschema_resolve.proofs.tuples.mark_keys.Given as goal

abbrev pub invariant-loop-number : goal.invariant-loop-number
invariant-loop-number l = marked l.marks.items (drop l.number-index l.number-items) ≡ marked l.fn.marks.items l.number-items

use Rattle.std.proofs.Common.{take}
use Rattle.yschema_model.specs.Layout.{laid}
use Rattle.yschema_model.specs.References.{FindsReferences}
use Rattle.yschema_model.proofs.references.References.of.Given as goal

abbrev pub invariant-loop-number : goal.invariant-loop-number
invariant-loop-number l = FindsReferences l.references (laid 0 (take l.number l.slots))

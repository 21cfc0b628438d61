use Rattle.std.proofs.Common.{take}
use Rattle.yschema_model.specs.References.{targets_of, HoldsMore}
use Rattle.yschema_model.proofs.references.References.add_members.Given as goal

abbrev pub invariant-loop-members : goal.invariant-loop-members
invariant-loop-members l = HoldsMore l.fn.self l.self l.id.0 (targets_of (take l.members-index l.targets))

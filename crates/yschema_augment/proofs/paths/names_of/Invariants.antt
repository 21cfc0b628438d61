use Rattle.std.proofs.Common.{◌≡◌, ◌++◌, drop, map}
use Rattle.yschema_augment.specs.Asking.{row_name, texts_seen}
use Rattle.yschema_augment.proofs.paths.names_of.Given as goal

abbrev pub invariant-loop-slot : goal.invariant-loop-slot
invariant-loop-slot l = texts_seen l.names.items ++ map row_name (drop l.slot-index l.slots) ≡ map row_name l.slots

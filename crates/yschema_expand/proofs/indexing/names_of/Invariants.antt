use Rattle.std.proofs.Common.{◌≡◌, ◌++◌, drop, map}
use Rattle.yschema_expand.specs.Indexing.{row_name}
use Rattle.yschema_expand.proofs.indexing.names_of.Given as goal

abbrev pub invariant-loop-slot : goal.invariant-loop-slot
invariant-loop-slot l = map (λ t. t.now) l.names.items ++ map row_name (drop l.slot-index l.slots) ≡ map row_name l.slots

use Rattle.std.specs.Prelude.{◌≡◌, ◌++◌}
use Rattle.std.specs.Vec.Iter.{into_iter_items}
use Rattle.yschema_model.specs.Configuration.{AreAsked}
use Rattle.yschema_model.proofs.configuration.asked_slots.Given as goal

abbrev pub invariant-loop-slot : goal.invariant-loop-slot
invariant-loop-slot l = AreAsked l.yielded l.asked.items × (l.fn.slots.items ≡ l.yielded ++ into_iter_items l.slot-iterator)

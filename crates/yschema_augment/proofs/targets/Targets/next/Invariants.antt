use Rattle.std.proofs.Common.{length}
use Rattle.yschema_expand.specs.AugmentView.{augments_seen}
use Rattle.yschema_augment.specs.Picking.{askings_of, AllSettled, Passes}
use Rattle.yschema_expand.specs.TableView.{slots_of}
use Rattle.yschema_augment.proofs.targets.Targets.next.Given as goal

abbrev pub invariant-loop-augment : goal.invariant-loop-augment
invariant-loop-augment l = record {
  passes : Passes l.fn.search l.search;
  settled : AllSettled (askings_of l.self.named.now) (slots_of l.self.nodes.now) (augments_seen l.self.augments.now) l.self.paths.now l.waits l.search;
}

abbrev pub decreases-loop-augment : goal.decreases-loop-augment
decreases-loop-augment l = length l.search.arrived.keys

use Rattle.yschema_expand.specs.AugmentView.{augments_seen}
use Rattle.yschema_expand.specs.NamedView.{language_of, modules_of}
use Rattle.yschema_augment.specs.Picking.{count_left}
use Rattle.yschema_expand.specs.TableView.{slots_of}
use Rattle.yschema_augment.specs.Turning.{Goes}
use Rattle.yschema_augment.proofs.targets.Targets.resolve.Given as goal

abbrev pub invariant-loop-applied : goal.invariant-loop-applied
invariant-loop-applied l = Goes (language_of l.self.named.now) (modules_of l.self.named.now) (augments_seen l.self.augments.now) (slots_of l.self.nodes.now) l.self.starts.now l.self.paths.now
    l.fn.search l.waits.items l.order.items l.search

abbrev pub decreases-loop-applied : goal.decreases-loop-applied
decreases-loop-applied l = count_left l.waits.items

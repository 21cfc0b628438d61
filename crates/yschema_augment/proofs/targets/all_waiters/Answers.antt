use Rattle.std.proofs.Common.{sym, subst}
use Rattle.yschema_augment.specs.Settling.{Among}
use Rattle.yschema_augment.proofs.SettlingLemmas.{all_more, none_more}
use Rattle.yschema_augment.proofs.targets.all_waiters.Goals as goal

pub loop-augment-preserved : goal.loop-augment-preserved
loop-augment-preserved c =
    let ws = c.loop-augment.waiters.items in
    record {
      all = λ j less. subst (Among (record { augment = j; found = 0 })) (sym c.in_ok-push.ensures.items) (all_more ws c.loop-augment.augment j c.loop-augment.invariant.all less);
      none = λ w there. none_more ws c.loop-augment.augment w c.loop-augment.invariant.none (subst (Among w) c.in_ok-push.ensures.items there);
    }

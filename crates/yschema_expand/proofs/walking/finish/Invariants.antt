use Rattle.yschema_expand.specs.NamedView.{language_of, modules_of}
use Rattle.yschema_expand.specs.Tasks.{toll, Does, TaskEnds}
use Rattle.yschema_expand.specs.Turns.{work, AllGood, Runs}
use Rattle.yschema_expand.specs.declared.expanding.Made.{Made}
use Rattle.yschema_expand.proofs.walking.finish.Given as goal

-- whatever the tasks that are left come to, all comes to
abbrev pub invariant-loop-task : goal.invariant-loop-task
invariant-loop-task l =
    let language = language_of l.context.named.now in
    let m = modules_of l.context.named.now in
    record {
      ends : AllGood (TaskEnds language m) l.tasks.items;
      so_far : (final : Made) → Runs (Does language m) l.tasks.items l.made final → Runs (Does language m) l.fn.tasks.items l.fn.made final;
    }

abbrev pub decreases-loop-task : goal.decreases-loop-task
decreases-loop-task l = work (toll (language_of l.context.named.now) (modules_of l.context.named.now)) l.tasks.items

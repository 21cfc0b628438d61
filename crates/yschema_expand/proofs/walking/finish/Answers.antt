use Rattle.std.proofs.Common.{◌≡◌, ◌-◌, [], take, arith, sym, ap, ◌∙◌, refl, subst}
use Rattle.std.proofs.lemmas.List.{append-nil}
use Rattle.yschema_expand.specs.NamedView.{language_of, modules_of}
use Rattle.yschema_expand.specs.Tasks.{toll, Does, TaskEnds}
use Rattle.yschema_expand.specs.Turns.{AllGood, Runs, work}
use Rattle.yschema_expand.proofs.TurnLemmas.{runs_push, good_pop, work_push}
use Rattle.yschema_expand.proofs.walking.finish.Goals as goal

pub loop-task-init : goal.loop-task-init
loop-task-init c = record {
  ends = c.requires.ends;
  so_far = λ final runs. runs;
}

pub perform-requires-clause-ends : goal.perform-requires-clause-ends
perform-requires-clause-ends c =
    let l = language_of c.args.context.now.named.now in
    let m = modules_of c.args.context.now.named.now in
    (good_pop (Does l m) (toll l m) (TaskEnds l m) c.pop.new.self.items c.in-Some.task (subst (AllGood (TaskEnds l m)) c.in-Some.ensures.items c.loop-task.invariant.ends)).1

pub loop-task-smaller : goal.loop-task-smaller
loop-task-smaller c =
    let l = language_of c.args.context.now.named.now in
    let m = modules_of c.args.context.now.named.now in
    let less = c.in_ok-perform.ensures.less in
    let was = ap (work (toll l m)) c.in-Some.ensures.items ∙ work_push (Does l m) (toll l m) (TaskEnds l m) c.pop.new.self.items c.in-Some.task in
    omega (arith, less, was)

pub loop-task-preserved : goal.loop-task-preserved
loop-task-preserved c =
    let l = language_of c.args.context.now.named.now in
    let m = modules_of c.args.context.now.named.now in
    let before = c.pop.new.self.items in
    let leads = c.in_ok-perform.ensures in
    record {
      ends = leads.good (good_pop (Does l m) (toll l m) (TaskEnds l m) before c.in-Some.task (subst (AllGood (TaskEnds l m)) c.in-Some.ensures.items c.loop-task.invariant.ends)).0;
      so_far = λ final runs.
          let all = leads.runs final runs in
          c.loop-task.invariant.so_far final (subst (λ ts. Runs (Does l m) ts c.loop-task.made final) (sym c.in-Some.ensures.items)
          (runs_push (Does l m) (toll l m) (TaskEnds l m) before c.in-Some.task c.loop-task.made all.0 final all.1 all.2));
    }

pub returns : goal.returns
returns c =
    let l = language_of c.args.context.now.named.now in
    let m = modules_of c.args.context.now.named.now in
    let items = c.loop-task.tasks.items in
    let none : items ≡ [] = c.in_default.ensures.items ∙ (append-nil c.pop.new.self.items ∙ (c.in_default.ensures.rest ∙ ap (λ n. take (n - 1) items) c.in_default.ensures.cases.0)) in
    c.loop-task.invariant.so_far c.loop-task.made (subst (λ ts. Runs (Does l m) ts c.loop-task.made c.loop-task.made) (sym none) refl)

use Rattle.std.proofs.Common.{◌≡◌, ◌-◌, take, ◌++◌, [], ◌∷◌, refl, sym, ap, ◌∙◌, subst, arith}
use Rattle.yschema_augment.specs.Placing.{toll, Always, Does}
use Rattle.yschema_augment.specs.declared.arranging.Task.{Task}
use Rattle.yschema_augment.specs.declared.arranging.Task.TheVariants.{Row}
use Rattle.std.proofs.lemmas.List.{append-nil}
use Rattle.yschema_expand.specs.Turns.{Runs, work}
use Rattle.yschema_expand.proofs.TurnLemmas.{runs_push, runs_pop, work_push}
use Rattle.yschema_augment.proofs.arranging.add_row.Goals as goal

pub loop-task-init : goal.loop-task-init
loop-task-init c =
    let x = c.args.all.now in
    let t : Task = Row c.args.spot c.args.nodes in
    let only : c.push.new.self.items ≡ t ∷ [] = c.in_ok-push.ensures.items ∙ ap (λ ts. ts ++ t ∷ []) c.new-tasks.ensures.items in
    λ final runs.
    let done = runs_pop (Does x) (toll x) Always [] t c.args.made.now final (subst (λ ts. Runs (Does x) ts c.args.made.now final) only runs) in
    subst (Does x t c.args.made.now) done.2 done.1

pub loop-task-smaller : goal.loop-task-smaller
loop-task-smaller c =
    let x = c.args.all.now in
    let less = c.in_ok-perform.ensures.less in
    let was = ap (work (toll x)) c.in-Some.ensures.items ∙ work_push (Does x) (toll x) Always c.pop.new.self.items c.in-Some.task in
    omega (arith, less, was)

pub loop-task-preserved : goal.loop-task-preserved
loop-task-preserved c =
    let x = c.args.all.now in
    let before = c.pop.new.self.items in
    let leads = c.in_ok-perform.ensures in
    λ final runs.
    let all = leads.runs final runs in
    c.loop-task.invariant final (subst (λ ts. Runs (Does x) ts c.loop-task.made final) (sym c.in-Some.ensures.items)
    (runs_push (Does x) (toll x) Always before c.in-Some.task c.loop-task.made all.0 final all.1 all.2))

pub returns : goal.returns
returns c =
    let x = c.args.all.now in
    let items = c.loop-task.tasks.items in
    let none : items ≡ [] = c.in_default.ensures.items ∙ (append-nil c.pop.new.self.items ∙ (c.in_default.ensures.rest ∙ ap (λ n. take (n - 1) items) c.in_default.ensures.cases.0)) in
    c.loop-task.invariant c.loop-task.made (subst (λ ts. Runs (Does x) ts c.loop-task.made c.loop-task.made) (sym none) refl)

use Rattle.std.proofs.Common.{◌≡◌, ◌++◌, ◌-◌, [], ◌∷◌, length, take, arith, sym, ap, ◌∙◌, refl, subst, None, true}
use Rattle.std.proofs.lemmas.List.{append-nil}
use Rattle.yspec.specs.linking.Planned.{at_top}
use Rattle.ybase_preorder.specs.Layout.{laid, seen}
use Rattle.ybase_preorder.specs.View.{row_by}
use Rattle.yschema_expand.specs.NodeView.{numbered_part}
use Rattle.yschema_expand.specs.Turns.{Runs, work}
use Rattle.yschema_expand.proofs.TurnLemmas.{runs_push, runs_pop, work_push}
use Rattle.yschema_plan.specs.PlannedView.{planned_view, listed}
use Rattle.yschema_plan.specs.Planning.{toll, Does, IsTask}
use Rattle.yschema_plan.specs.declared.planning.Task.{Task}
use Rattle.yschema_plan.specs.declared.planning.Task.TheVariants.{Add}
use Rattle.yschema_plan.proofs.planning.planned.Goals as goal

pub loop-task-init : goal.loop-task-init
loop-task-init c =
    let t : Task = Add (record { parent = None; data_parent = None; scope = None; config = true }) c.args.roots in
    let only : c.push.new.self.items ≡ t ∷ [] = c.in_ok-push.ensures.items ∙ ap (λ ts. ts ++ t ∷ []) c.new-tasks.ensures.items in
    λ final runs.
    let done = runs_pop Does toll IsTask [] t c.new-table.result final (subst (λ ts. Runs Does ts c.new-table.result final) only runs) in
    subst (Does t c.new-table.result) done.2 done.1
    ∙ ap (λ slots. seen planned_view 0 (laid slots) ++ listed (length slots) at_top (row_by numbered_part c.args.roots)) c.new-table.ensures

pub loop-task-smaller : goal.loop-task-smaller
loop-task-smaller c =
    let less = c.in_ok-perform.ensures.less in
    let was = ap (work toll) c.in-Some.ensures.items ∙ work_push Does toll IsTask c.pop.new.self.items c.in-Some.task in
    omega (arith, less, was)

pub loop-task-preserved : goal.loop-task-preserved
loop-task-preserved c = λ final runs.
    let all = c.in_ok-perform.ensures.runs final runs in
    c.loop-task.invariant final (subst (λ ts. Runs Does ts c.loop-task.table final) (sym c.in-Some.ensures.items)
    (runs_push Does toll IsTask c.pop.new.self.items c.in-Some.task c.loop-task.table all.0 final all.1 all.2))

pub returns : goal.returns
returns c =
    let items = c.loop-task.tasks.items in
    let none : items ≡ [] = c.in_default.ensures.items ∙ (append-nil c.pop.new.self.items ∙ (c.in_default.ensures.rest ∙ ap (λ n. take (n - 1) items) c.in_default.ensures.cases.0)) in
    c.loop-task.invariant c.loop-task.table (subst (λ ts. Runs Does ts c.loop-task.table c.loop-task.table) (sym none) refl)

use Rattle.std.proofs.Common.{◌++◌, suc, [], ◌∷◌, sym, ap, ◌∙◌, subst, arith}
use Rattle.ybase_preorder.specs.View.{row_by, label_by}
use Rattle.ybase_preorder.proofs.RowLemmas.{takes_by, takes_none_by}
use Rattle.yschema_expand.specs.NumberedView.{with_number}
use Rattle.yschema_augment.specs.Hanging.{given_by, inner}
use Rattle.yschema_augment.specs.Placing.{given, marked, steps, steps_from, toll, Adds, Always, Copies, Does, Leads}
use Rattle.yschema_augment.specs.declared.arranging.Task.{Task}
use Rattle.yschema_augment.specs.declared.arranging.Task.TheVariants.{Row, Inner}
use Rattle.yschema_augment.proofs.PlacingLemmas.{adds_none, adds_both, inner_first, marked_none}
use Rattle.yschema_expand.proofs.TurnLemmas.{leaves_none, leaves_behind, leaves_task}
use Rattle.yschema_augment.proofs.arranging.add_inner.Goals as goal

pub returns-in_default : goal.returns-in_default
returns-in_default c = λ made.
    let x = c.args.all.now in
    let spot = c.args.spot in
    let before = c.args.nodes in
    let g = given x spot.from in
    let whole = row_by with_number before in
    let none = (takes_none_by with_number before c.next.new.self c.in_default.ensures.steps).0 in
    leaves_none (Does x) (toll x) Always (Copies x spot (inner whole)) (steps (steps_from x spot.from) whole) c.args.tasks.now.items made made
    (adds_none spot.parent (given_by g (marked spot.added_by (inner whole))) made (marked_none g spot.added_by (inner whole) (ap inner none)))

pub returns : goal.returns
returns c = λ made.
    let x = c.args.all.now in
    let spot = c.args.spot in
    let g = given x spot.from in
    let most = steps_from x spot.from in
    let below = row_by with_number c.in-Some.original.children in
    let rest = row_by with_number c.next.new.self in
    let whole = row_by with_number c.args.nodes in
    let taken = takes_by with_number c.args.nodes c.next.new.self c.in-Some.original c.in-Some.ensures.steps in
    let split = ap (λ f. given_by g (marked spot.added_by (inner f))) taken ∙ inner_first g spot.added_by (label_by with_number c.in-Some.original) below rest in
    let t : Task = Row spot c.children.result in
    let o : Task = Inner spot c.next.new.self in
    let under = ap (row_by with_number) c.children.ensures in
    let cost = ap (steps most) taken in
    let costs = ap (steps most) under in
    let before = c.args.tasks.now.items in
    let items = c.in_ok-push-2.ensures.items ∙ ap (λ ts. ts ++ t ∷ []) c.in_ok-push.ensures.items in
    subst (λ ts. Leads x (Copies x spot (inner whole)) (steps most whole) before ts made made) (sym items)
    (leaves_behind (Does x) (toll x) Always (Does x t) (Copies x spot (inner whole)) (suc (toll x t)) (steps most whole) o before ((before ++ o ∷ []) ++ t ∷ []) made made made
    (λ full final added then. subst (λ f. Adds spot.parent f made final) (sym split)
    (adds_both spot.parent (given_by g (marked spot.added_by below)) (given_by g (marked spot.added_by (inner rest))) made full final
    (subst (λ f. Copies x spot f made full) under added) then))
    tt (omega (arith, cost, costs)) (leaves_task (Does x) (toll x) Always t (before ++ o ∷ []) made tt))

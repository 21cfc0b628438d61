use Rattle.std.proofs.Common.{◌≡◌, ◌+◌, sym, ap, ◌∙◌, subst, arith}
use Rattle.std.proofs.lemmas.Result.{on_ok_weaker}
use Rattle.yspec.specs.Forest.{end, node, join}
use Rattle.ybase_preorder.specs.View.{row_by, label_by}
use Rattle.ybase_preorder.proofs.RowLemmas.{takes_by, takes_none_by}
use Rattle.yschema_expand.specs.NumberedView.{with_number}
use Rattle.yschema_augment.specs.Hanging.{given_by}
use Rattle.yschema_augment.specs.Placing.{given, marked, steps, steps_from, toll, Adds, Always, Copies, Does, Leads}
use Rattle.yschema_augment.specs.declared.arranging.Task.{Task}
use Rattle.yschema_augment.specs.declared.arranging.Task.TheVariants.{Row}
use Rattle.yschema_augment.proofs.PlacingLemmas.{adds_none, adds_both, one_first, marked_none}
use Rattle.yschema_expand.proofs.TurnLemmas.{leaves_none, leaves_behind}
use Rattle.yschema_augment.proofs.arranging.add_first.Goals as goal

pub returns-in_default : goal.returns-in_default
returns-in_default c =
    let x = c.args.all.now in
    let spot = c.args.spot in
    let before = c.args.nodes in
    let g = given x spot.from in
    let whole = row_by with_number before in
    let made = c.args.made.now in
    let none = (takes_none_by with_number before c.next.new.self c.in_default.ensures.steps).0 in
    leaves_none (Does x) (toll x) Always (Copies x spot whole) (steps (steps_from x spot.from) whole) c.args.tasks.now.items made made
    (adds_none spot.parent (given_by g (marked spot.added_by whole)) made (marked_none g spot.added_by whole none))

pub returns : goal.returns
returns c =
    let x = c.args.all.now in
    let spot = c.args.spot in
    let g = given x spot.from in
    let most = steps_from x spot.from in
    let l = label_by with_number c.in-Some.original in
    let below = row_by with_number c.in-Some.original.children in
    let rest = row_by with_number c.next.new.self in
    let whole = row_by with_number c.args.nodes in
    let taken = takes_by with_number c.args.nodes c.next.new.self c.in-Some.original c.in-Some.ensures.steps in
    let one = node l below end in
    let first = given_by g (marked spot.added_by one) in
    let split : given_by g (marked spot.added_by whole) ≡ join first (given_by g (marked spot.added_by rest)) =
    ap (λ f. given_by g (marked spot.added_by f)) taken ∙ one_first g spot.added_by l below rest in
    let o : Task = Row spot c.next.new.self in
    let cost = ap (steps most) taken in
    let before = c.args.tasks.now.items in
    let made = c.args.made.now in
    on_ok_weaker c.add_node.result (λ leads. leaves_behind (Does x) (toll x) Always (Copies x spot one) (Copies x spot whole)
    (3 + (most + steps most below)) (steps most whole) o before c.add_node.new.tasks.items made made c.add_node.new.made
    (λ full final added then. subst (λ f. Adds spot.parent f made final) (sym split)
    (adds_both spot.parent first (given_by g (marked spot.added_by rest)) made full final added then))
    tt (omega (arith, cost))
    (subst (λ ts. Leads x (Copies x spot one) (3 + (most + steps most below)) ts c.add_node.new.tasks.items made c.add_node.new.made) c.in_ok-push.ensures.items leads))
    c.add_node.ensures

use Rattle.std.proofs.Common.{◌≡◌, ◌+◌, Some, None, length, refl, sym, ap, ◌∙◌, subst, arith}
use Rattle.std.specs.Prelude.{slice_get}
use Rattle.std.proofs.lemmas.Option.{slice_get_read, slice_get_past}
use Rattle.std.proofs.lemmas.Result.{on_ok_weaker}
use Rattle.yspec.specs.Forest.{join}
use Rattle.ybase_preorder.specs.View.{label_by}
use Rattle.yschema_augment.specs.Arranging.{hung_view, rows_of}
use Rattle.yschema_expand.specs.NumberedView.{with_number}
use Rattle.yschema_augment.specs.Hanging.{given_by}
use Rattle.yschema_augment.specs.Placing.{given, steps, steps_from, toll, Adds, Always, Does, Leads, Others}
use Rattle.yschema_expand.specs.TableView.{slots_of}
use Rattle.yschema_augment.specs.declared.arranging.Task.{Task}
use Rattle.yschema_augment.specs.declared.arranging.Task.TheVariants.{Hang}
use Rattle.yschema_augment.proofs.PlacingLemmas.{adds_none, adds_both, given_on, given_here, given_later, given_none, fewer, leads_by, steps_here}
use Rattle.yschema_expand.proofs.TurnLemmas.{leaves_none, leaves_behind}
use Rattle.yschema_augment.proofs.arranging.hang.Goals as goal

pub returns-in_default : goal.returns-in_default
returns-in_default c = λ made.
    let x = c.args.all.now in
    let l = label_by with_number c.args.original in
    let none : slice_get x.order.now c.args.place ≡ None = slice_get_past x.order.now c.args.place c.in_default.ensures.lookup.3 in
    leaves_none (Does x) (toll x) Always (Adds c.args.parent (given x c.args.place l)) (steps_from x c.args.place) c.args.tasks.now.items made made
    (adds_none c.args.parent (given x c.args.place l) made (given_none x.starts.now (slots_of x.nodes.now) x.numbers.now x.order.now l c.args.place none))

pub returns-then-applied-number : goal.returns-then-applied-number
returns-then-applied-number c = λ made.
    let x = c.args.all.now in
    let order = x.order.now in
    let slots = slots_of x.nodes.now in
    let place = c.args.place in
    let a = c.in-Some.applied.now in
    let l = label_by with_number c.args.original in
    let is : slice_get order place ≡ Some a = slice_get_read order (length order) place a refl c.in-Some.ensures.lookup.3.0 c.in-Some.ensures.lookup.1 in
    let other : a.target ≡ l.number → ⊥ = λ e. absurd (omega (arith, e, c.number.ensures, c.if-applied-number.true)) in
    let t : Task = Hang c.args.parent c.args.original (place + 1) in
    let costs = steps_here (λ b. rows_of x.starts.now slots b.augment) order place a is in
    leads_by x (Adds c.args.parent (given x place l)) t (steps_from x place) c.args.tasks.now.items _ made c.in_ok-push.ensures.items (omega (arith, costs))
    (λ final done. subst (λ f. Adds c.args.parent f made final) (sym (given_later x.starts.now slots x.numbers.now order l place a is other)) done)

pub returns : goal.returns
returns c = λ made.
    let x = c.args.all.now in
    let order = x.order.now in
    let slots = slots_of x.nodes.now in
    let place = c.args.place in
    let later = place + 1 in
    let next = c.behind-next.result in
    let a = c.in-Some.applied.now in
    let l = label_by with_number c.args.original in
    let h = hung_view x.starts.now slots x.numbers.now a in
    let is : slice_get order place ≡ Some a = slice_get_read order (length order) place a refl c.in-Some.ensures.lookup.3.0 c.in-Some.ensures.lookup.1 in
    let same : a.target ≡ l.number = omega (arith, c.number.ensures, c.if-applied-number.false) in
    let t : Task = Hang c.args.parent c.args.original next in
    let before = c.args.tasks.now.items in
    let rows = rows_of x.starts.now slots a.augment in
    let costs = steps_here (λ b. rows_of x.starts.now slots b.augment) order place a is in
    let less = fewer (λ b. rows_of x.starts.now slots b.augment) order later next c.behind-next.ensures.behind in
    let others = subst (λ k. Others order k later next) same (c.behind-next.ensures.others a is) in
    let first = given_by (given x later) (h.row l) in
    let whole = given_here x.starts.now slots x.numbers.now order l place a is same
    ∙ ap (join first) (given_on x.starts.now slots x.numbers.now order l later next c.behind-next.ensures.behind others) in
    let some = 1 + steps (steps_from x later) rows in
    on_ok_weaker c.add_rows.result (λ leads. leaves_behind (Does x) (toll x) Always (Adds c.args.parent first) (Adds c.args.parent (given x place l))
    some (steps_from x place) t before c.add_rows.new.tasks.items made made made
    (λ full final added then. subst (λ f. Adds c.args.parent f made final) (sym whole) (adds_both c.args.parent first (given x next l) made full final added then))
    tt (omega (arith, costs, less))
    (subst (λ ts. Leads x (Adds c.args.parent first) some ts c.add_rows.new.tasks.items made made) c.in_ok-push-2.ensures.items leads))
    (c.add_rows.ensures made)

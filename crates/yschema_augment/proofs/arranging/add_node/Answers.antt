use Rattle.std.proofs.Common.{◌≡◌, ◌+◌, ◌++◌, suc, [], ◌∷◌, Some, None, drop, refl, sym, ap, ◌∙◌, subst, arith}
use Rattle.yspec.specs.Forest.{end, node, join}
use Rattle.ybase_preorder.specs.View.{row_by, label_by}
use Rattle.yschema_augment.specs.Arranging.{rows_of}
use Rattle.yschema_expand.specs.NumberedView.{with_number}
use Rattle.yschema_augment.specs.Hanging.{given_by}
use Rattle.yschema_expand.specs.NodeView.{marked_with, part_view}
use Rattle.yschema_augment.specs.Placing.{given, steps, steps_from, toll, Adds, Always, Copies, Does, Leads, Others}
use Rattle.yschema_expand.specs.TableView.{slots_of}
use Rattle.yschema_augment.specs.declared.arranging.Task.{Task}
use Rattle.yschema_augment.specs.declared.arranging.Task.TheVariants.{Row, Hang, Close}
use Rattle.yschema_augment.proofs.PlacingLemmas.{adds_both, adds_node, row_first, marked_none, mark, mark_is, given_on, given_mark, fewer}
use Rattle.yschema_expand.proofs.TurnLemmas.{leaves_behind, leaves_task}
use Rattle.yschema_augment.proofs.arranging.add_node.Goals as goal

pub returns : goal.returns
returns c =
    let x = c.args.all.now in
    let spot = c.args.spot in
    let m = spot.added_by in
    let order = x.order.now in
    let slots = slots_of x.nodes.now in
    let g = given x spot.from in
    let most = steps_from x spot.from in
    let l = label_by with_number c.args.original in
    let below = row_by with_number c.args.original.children in
    let one = node l below end in
    let n = c.in_ok-number.number in
    let old = c.args.made.now in
    let mid = c.open.new.self in
    let place = c.first_from-place.result in
    let t : Task = Row (record { parent = Some n; added_by = None; from = spot.from }) c.children.result in
    let h : Task = Hang (Some n) c.args.original place in
    let o : Task = Close n in
    let before = c.args.tasks.now.items in
    let under = ap (row_by with_number) c.children.ensures in
    let number : c.number.result ≡ l.number = c.number.ensures in
    let others = subst (λ k. Others order k spot.from place) number c.first_from-place.ensures.others in
    let kept = sym (given_on x.starts.now slots x.numbers.now order l spot.from place c.first_from-place.ensures.behind others)
    ∙ sym (given_mark x.starts.now slots x.numbers.now (drop spot.from order) m l) in
    let inside = join (given_by g below) (g (mark m l)) in
    let whole = row_first g m l below end ∙ ap (node (mark m l) inside) (marked_none g m end refl) in
    let label_is = c.in_ok-label.ensures ∙ (ap (λ e. marked_with m (part_view e)) c.label.ensures ∙ mark_is m l) in
    let costs = ap (steps most) under in
    let less = fewer (λ a. rows_of x.starts.now slots a.augment) order spot.from place c.first_from-place.ensures.behind in
    let total = 3 + (most + steps most below) in
    let some = suc (steps_from x place) + suc (toll x t) in
    let all = ((before ++ o ∷ []) ++ h ∷ []) ++ t ∷ [] in
    let items = c.in_ok-push-3.ensures.items ∙ ap (λ ts. ts ++ t ∷ []) (c.in_ok-push-2.ensures.items ∙ ap (λ ts. ts ++ h ∷ []) c.in_ok-push.ensures.items) in
    subst (λ ts. Leads x (Copies x spot one) total before ts old mid) (sym items)
    (leaves_behind (Does x) (toll x) Always (Adds (Some n) inside) (Copies x spot one) some total o before all old mid mid
    (λ full final added closed. subst (λ f. Adds spot.parent f old final) (sym whole)
    (adds_node spot.parent (mark m l) inside c.in_ok-label.label n old mid full final label_is c.in_ok-number.ensures.laid c.in_ok-number.ensures.number added closed))
    tt (omega (arith, costs, less))
    (leaves_behind (Does x) (toll x) Always (Does x t) (Adds (Some n) inside) (suc (toll x t)) some h (before ++ o ∷ []) all mid mid mid
    (λ full final added then. adds_both (Some n) (given_by g below) (g (mark m l)) mid full final
    (subst (λ f. Adds (Some n) (given_by g f) mid full) under added) (subst (λ f. Adds (Some n) f full final) kept then))
    tt (omega arith)
    (leaves_task (Does x) (toll x) Always t ((before ++ o ∷ []) ++ h ∷ []) mid tt)))

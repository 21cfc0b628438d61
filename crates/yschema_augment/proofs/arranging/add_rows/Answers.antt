use Rattle.std.proofs.Common.{◌≡◌, ◌+◌, Some, true, false, cond, get_or, sym, ap, ap₂, ◌∙◌, subst, arith}
use Rattle.yspec.specs.linking.Keyword.{choice_word}
use Rattle.yspec.specs.linking.Source.{is_source_of}
use Rattle.ybase_preorder.specs.View.{label_by}
use Rattle.yschema_augment.specs.Arranging.{hung_view, rows_of}
use Rattle.yschema_expand.specs.NumberedView.{with_number}
use Rattle.yschema_augment.specs.Hanging.{given_by, inner, marked_by}
use Rattle.yschema_augment.specs.Placing.{given, steps, steps_from, Adds}
use Rattle.yschema_expand.specs.TableView.{slots_of}
use Rattle.yschema_augment.specs.declared.arranging.Spot.{Spot}
use Rattle.yschema_augment.specs.declared.arranging.Task.{Task}
use Rattle.yschema_augment.specs.declared.arranging.Task.TheVariants.{Row, Inner}
use Rattle.yschema_augment.proofs.PlacingLemmas.{leads_by}
use Rattle.yschema_augment.proofs.arranging.add_rows.Goals as goal

pub returns-in_ok-push : goal.returns-in_ok-push
returns-in_ok-push c = λ made.
    let x = c.args.all.now in
    let a = c.args.applied in
    let later = c.args.place + 1 in
    let g = given x later in
    let l = label_by with_number c.args.original in
    let rows = rows_of x.starts.now (slots_of x.nodes.now) a.augment in
    let number = get_or x.numbers.now a.augment 0 in
    let h = hung_view x.starts.now (slots_of x.nodes.now) x.numbers.now a in
    let spot : Spot = record { parent = c.args.parent; added_by = Some c.number_at.result; from = later } in
    let t : Task = Row spot c.rows_of-rows.result in
    let choice : is_source_of choice_word l.label.source ≡ true = sym c.is_choice.ensures ∙ c.if-is_choice.true in
    let is = ap₂ (λ n f. given_by g (marked_by n (f))) c.number_at.ensures c.rows_of-rows.ensures
    ∙ sym (ap (λ b. given_by g (marked_by number (cond b rows (inner rows)))) choice) in
    let costs = ap (steps (steps_from x later)) c.rows_of-rows.ensures in
    leads_by x (Adds c.args.parent (given_by g (h.row l))) t (1 + steps (steps_from x later) rows) c.args.tasks.now.items _ made c.in_ok-push.ensures.items
    (omega (arith, costs)) (λ final done. subst (λ f. Adds c.args.parent f made final) is done)

pub returns-in_ok-push-2 : goal.returns-in_ok-push-2
returns-in_ok-push-2 c = λ made.
    let x = c.args.all.now in
    let a = c.args.applied in
    let later = c.args.place + 1 in
    let g = given x later in
    let l = label_by with_number c.args.original in
    let rows = rows_of x.starts.now (slots_of x.nodes.now) a.augment in
    let number = get_or x.numbers.now a.augment 0 in
    let h = hung_view x.starts.now (slots_of x.nodes.now) x.numbers.now a in
    let spot : Spot = record { parent = c.args.parent; added_by = Some c.number_at.result; from = later } in
    let t : Task = Inner spot c.rows_of-rows.result in
    let choice : is_source_of choice_word l.label.source ≡ false = sym c.is_choice.ensures ∙ c.if-is_choice.false in
    let is = ap₂ (λ n f. given_by g (marked_by n (inner f))) c.number_at.ensures c.rows_of-rows.ensures
    ∙ sym (ap (λ b. given_by g (marked_by number (cond b rows (inner rows)))) choice) in
    let costs = ap (steps (steps_from x later)) c.rows_of-rows.ensures in
    leads_by x (Adds c.args.parent (given_by g (h.row l))) t (1 + steps (steps_from x later) rows) c.args.tasks.now.items _ made c.in_ok-push-2.ensures.items
    (omega (arith, costs)) (λ final done. subst (λ f. Adds c.args.parent f made final) is done)

use Rattle.std.proofs.Common.{◌≡◌, ◌++◌, suc, [], ◌∷◌, length, arith, sym, ap, ◌∙◌, refl, subst}
use Rattle.yspec.specs.Forest.{end, node, size}
use Rattle.yspec.specs.linking.Planned.{planned_node}
use Rattle.ybase_preorder.specs.View.{slots_in, row_by, label_by}
use Rattle.ybase_preorder.specs.declared.table.Table.{Table}
use Rattle.ybase_preorder.proofs.RowLemmas.{takes_by, takes_none_by}
use Rattle.yschema_expand.specs.NodeView.{numbered_part, part_view}
use Rattle.yschema_expand.proofs.TurnLemmas.{leaves_none, leaves_behind, leaves_task}
use Rattle.yschema_plan.specs.PlannedView.{planned_view, seen_rows, listed, around_view}
use Rattle.yschema_plan.specs.Planning.{row_toll, toll, AddsRow, Does, IsTask, Leads}
use Rattle.yschema_plan.specs.declared.planned.Planned.{Planned}
use Rattle.yschema_plan.specs.declared.planning.Task.{Task}
use Rattle.yschema_plan.specs.declared.planning.Task.TheVariants.{Add, Close}
use Rattle.yschema_plan.proofs.PartLemmas.{added, next_node, nothing_added}
use Rattle.yschema_plan.proofs.planning.add_first.Goals as goal

pub returns-in_default : goal.returns-in_default
returns-in_default c =
    let before = c.args.row in
    leaves_none Does toll IsTask (AddsRow c.args.around before) (row_toll before) c.args.tasks.now.items c.args.table.now c.args.table.now
    (nothing_added c.args.table.now (around_view c.args.around) (row_by numbered_part before) (takes_none_by numbered_part before c.next.new.self c.in_default.ensures.steps).0)

pub returns : goal.returns
returns c =
    let before = c.args.row in
    let after = c.next.new.self in
    let found = c.in-Some.expanded in
    let p = label_by numbered_part found in
    let below = row_by numbered_part found.children in
    let a = around_view c.args.around in
    let old = c.args.table.now in
    let mid = c.open.new.self in
    let k = length (slots_in old) in
    let n = c.in_ok-number.number in
    let inside = c.around_below-inside.result in
    let label : (m : _) → planned_view m c.new-planned.result ≡ planned_node m a p = λ m. c.new-planned.ensures m ∙ ap (λ l. planned_node m a (part_view l)) c.label.ensures in
    let behind : Task = Add c.args.around after in
    let inner : Task = Add inside c.children.result in
    let ts = c.args.tasks.now.items in
    let items = c.in_ok-push-3.ensures.items ∙ (ap (λ xs. xs ++ inner ∷ []) c.in_ok-push-2.ensures.items ∙ ap (λ xs. (xs ++ Close n ∷ []) ++ inner ∷ []) c.in_ok-push.ensures.items) in
    let sized = ap size c.in-Some.ensures.steps.0 in
    let count = ap row_toll c.children.ensures in
    let one : Table Planned → Table Planned → Type 0 = λ here there. seen_rows there ≡ seen_rows here ++ listed (length (slots_in here)) a (node p below end) in
    let leaves = leaves_behind Does toll IsTask (Does inner) one (suc (toll inner)) (suc (suc (toll inner))) (Close n) (ts ++ behind ∷ []) (((ts ++ behind ∷ []) ++ Close n ∷ []) ++ inner ∷ []) old mid mid
    (λ full final full_is closed. added old mid full final c.new-planned.result n a (around_view inside) p below
    c.in_ok-number.ensures.laid c.in_ok-number.ensures.number (c.around_below-inside.ensures p (label n))
    (full_is ∙ ap (λ row. seen_rows mid ++ listed (length (slots_in mid)) (around_view inside) (row_by numbered_part row)) c.children.ensures)
    closed (label k))
    tt (omega arith) (leaves_task Does toll IsTask inner ((ts ++ behind ∷ []) ++ Close n ∷ []) mid tt) in
    subst (λ xs. Leads (AddsRow c.args.around before) (row_toll before) ts xs old mid) (sym items)
    (leaves_behind Does toll IsTask one (AddsRow c.args.around before) (suc (suc (toll inner))) (row_toll before) behind ts (((ts ++ behind ∷ []) ++ Close n ∷ []) ++ inner ∷ []) old old mid
    (λ full final first rest. rest ∙ next_node old full a p below (row_by numbered_part after) (row_by numbered_part before) _
    (takes_by numbered_part before after found c.in-Some.ensures.steps) first refl)
    tt (omega (arith, sized, count)) leaves)

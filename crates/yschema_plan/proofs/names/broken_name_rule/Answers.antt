use Rattle.std.proofs.Common.{◌≡◌, ◌+◌, ◌≤◌, suc, take, drop, length, get_or, sym, ap, ap₂, ◌∙◌, arith}
use Rattle.std.specs.Prelude.{find, option_map}
use Rattle.std.specs.List.{list_any}
use Rattle.yspec.specs.linking.SchemaNodes.{number_in}
use Rattle.yspec.specs.schema.Breaks.{least_from, when}
use Rattle.yspec.specs.linking.NodeBreaks.{broken_at, is_like, doubled}
use Rattle.ybase_preorder.specs.Layout.{labels_by}
use Rattle.ybase_preorder.specs.View.{slots_in}
use Rattle.ybase_preorder.proofs.LabelLemmas.{labels_more}
use Rattle.ylink_grammar.specs.BreakView.{seen}
use Rattle.yschema_plan.specs.PlannedView.{planned_view}
use Rattle.yschema_plan.specs.Finding.{is_before}
use Rattle.yschema_plan.proofs.PlanLemmas.{nodes_are, labels_from, next_told, drop_past, row_stands}
use Rattle.yschema_plan.proofs.NodeLemmas.{earlier}
use Rattle.yschema_plan.proofs.names.broken_name_rule.Goals as goal

pub is_repeated-is_repeated-requires : goal.is_repeated-is_repeated-requires
is_repeated-is_repeated-requires c =
    row_stands c.args.plan.now c.slots-row-items.result.now c.loop-number.number c.row-item.result c.slots-row-items.ensures.rows c.loop-number-test.true c.row-item.is

pub loop-number-preserved : goal.loop-number-preserved
loop-number-preserved c =
    let rows = slots_in c.args.plan.now.table in
    let i = c.loop-number.number in
    let row = c.row-item.result in
    let p = planned_view i row.label in
    let before = labels_by planned_view 0 (take i rows) in
    let same = c.slots-row-items.ensures.rows in
    let is = c.row-item.is ∙ ap (λ xs. get_or xs i row) same in
    let within : suc i ≤ length rows = omega (arith, ap length same) in
    let more = labels_more planned_view rows i row within is in
    let repeated : c.is_repeated-is_repeated.result ≡ list_any (is_like p) before =
    c.is_repeated-is_repeated.ensures
    ∙ (ap (λ nodes. is_before (option_map number_in (find (is_like p) nodes)) i) (nodes_are c.args.plan.now)
    ∙ earlier (is_like p) 0 i i rows (omega arith)) in
    let told : seen c.least_when-told.result ≡ least_from (seen c.loop-number.told) (when (list_any (is_like p) before) (broken_at 13 p)) =
    c.least_when-told.ensures ∙ ap₂ (λ b breaks. least_from (seen c.loop-number.told) (when b breaks)) repeated (c.broken.ensures i) in
    ap (λ done. least_from (seen c.least_when-told.result) (doubled done (labels_by planned_view (i + 1) (drop (i + 1) rows)))) more
    ∙ next_told (seen c.loop-number.told) (seen c.least_when-told.result) before p (labels_by planned_view (i + 1) (drop (i + 1) rows)) _ told
    (ap (λ rest. least_from (seen c.loop-number.told) (doubled before rest)) (sym (labels_from rows i row within is)) ∙ c.loop-number.invariant)

pub returns : goal.returns
returns c =
    let rows = slots_in c.args.plan.now.table in
    let i = c.loop-number.number in
    let past : length rows ≤ i = omega (arith, ap length c.slots-row-items.ensures.rows) in
    ap (λ rest. least_from (seen c.loop-number.told) (doubled (labels_by planned_view 0 (take i rows)) (labels_by planned_view i rest))) (sym (drop_past rows i past))
    ∙ c.loop-number.invariant

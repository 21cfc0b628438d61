use Rattle.std.proofs.Common.{◌≡◌, ℕ, IfOk, string_bytes, ap, sym, ◌∙◌, subst}
use Rattle.yschema_model.specs.View.{view}
use Rattle.yinst_tree.specs.View.{row_view, tree_view, place_view, step_view}
use Rattle.ycheck.specs.View.{code_view, info_view}
use Rattle.ycheck.specs.declared.fault.FaultCode.TheVariants.{V1, V2, V3, V6, V7, V8, V9, V10, V11, V12}
use Rattle.ysay_fault.specs.Fellows.{fellow_entry}
use Rattle.ysay_fault.specs.FoundFellows.{fellow_at}
use Rattle.ysay_fault.specs.Sentences.{same_unique}
use Rattle.ysay_fault.proofs.FoundLemmas.{fellow_at_last}
use Rattle.ysay_place.proofs.PlaceLemmas.{row_in_order}
use Rattle.ysay_fault.proofs.SentenceLemmas.{said_of_last}
use Rattle.ysay_fault.proofs.explanation.sentence_at.Goals as goal

pub returns-in-V1 : goal.returns-in-V1
returns-in-V1 c = said_of_last (view c.args.schema.now) (tree_view c.args.tree.now) (row_view c.row_at-row.result.now) (info_view c.args.info.now)
    c.args.steps.now c.in-Some.above.now c.in-Some.step.now c.args.code V1 c.in-Some.ensures.cases.0 c.row_at-row.ensures c.in-V1.is
    c.wrong_value.result c.wrong_value.ensures

pub returns-in-V2 : goal.returns-in-V2
returns-in-V2 c = said_of_last (view c.args.schema.now) (tree_view c.args.tree.now) (row_view c.row_at-row.result.now) (info_view c.args.info.now)
    c.args.steps.now c.in-Some.above.now c.in-Some.step.now c.args.code V2 c.in-Some.ensures.cases.0 c.row_at-row.ensures c.in-V2.is
    c.missing_key.result c.missing_key.ensures

pub returns-in-V3 : goal.returns-in-V3
returns-in-V3 c = said_of_last (view c.args.schema.now) (tree_view c.args.tree.now) (row_view c.row_at-row.result.now) (info_view c.args.info.now)
    c.args.steps.now c.in-Some.above.now c.in-Some.step.now c.args.code V3 c.in-Some.ensures.cases.0 c.row_at-row.ensures c.in-V3.is
    c.missing_leaf.result c.missing_leaf.ensures

pub returns-in-V6 : goal.returns-in-V6
returns-in-V6 c = said_of_last (view c.args.schema.now) (tree_view c.args.tree.now) (row_view c.row_at-row.result.now) (info_view c.args.info.now)
    c.args.steps.now c.in-Some.above.now c.in-Some.step.now c.args.code V6 c.in-Some.ensures.cases.0 c.row_at-row.ensures c.in-V6.is
    c.too_few.result c.too_few.ensures

pub returns-in-V7 : goal.returns-in-V7
returns-in-V7 c = said_of_last (view c.args.schema.now) (tree_view c.args.tree.now) (row_view c.row_at-row.result.now) (info_view c.args.info.now)
    c.args.steps.now c.in-Some.above.now c.in-Some.step.now c.args.code V7 c.in-Some.ensures.cases.0 c.row_at-row.ensures c.in-V7.is
    c.too_many.result c.too_many.ensures

pub same_key-requires-clause-fellow : goal.same_key-requires-clause-fellow
same_key-requires-clause-fellow c =
    c.requires ∙ (ap (fellow_at (view c.args.schema.now) (tree_view c.args.tree.now) (place_view c.args.steps.now) (info_view c.args.info.now)) (ap code_view c.in-V8.is)
    ∙ fellow_at_last (view c.args.schema.now) (tree_view c.args.tree.now) (row_view c.row_at-row.result.now) (info_view c.args.info.now) (code_view V8)
    c.args.steps.now c.in-Some.above.now c.in-Some.step.now c.in-Some.ensures.cases.0 c.row_at-row.ensures)

pub returns-in-V8 : goal.returns-in-V8
returns-in-V8 c = said_of_last (view c.args.schema.now) (tree_view c.args.tree.now) (row_view c.row_at-row.result.now) (info_view c.args.info.now)
    c.args.steps.now c.in-Some.above.now c.in-Some.step.now c.args.code V8 c.in-Some.ensures.cases.0 c.row_at-row.ensures c.in-V8.is
    c.same_key.result c.same_key.ensures

pub same_unique-requires-clause-fellow : goal.same_unique-requires-clause-fellow
same_unique-requires-clause-fellow c =
    c.requires ∙ (ap (fellow_at (view c.args.schema.now) (tree_view c.args.tree.now) (place_view c.args.steps.now) (info_view c.args.info.now)) (ap code_view c.in-V9.is)
    ∙ (fellow_at_last (view c.args.schema.now) (tree_view c.args.tree.now) (row_view c.row_at-row.result.now) (info_view c.args.info.now) (code_view V9)
    c.args.steps.now c.in-Some.above.now c.in-Some.step.now c.in-Some.ensures.cases.0 c.row_at-row.ensures
    ∙ ap (λ u. fellow_entry (view c.args.schema.now) u (row_view c.row_at-row.result.now) (step_view c.in-Some.step.now)) (sym c.unique_in.ensures)))

pub returns-in-V9 : goal.returns-in-V9
returns-in-V9 c = said_of_last (view c.args.schema.now) (tree_view c.args.tree.now) (row_view c.row_at-row.result.now) (info_view c.args.info.now)
    c.args.steps.now c.in-Some.above.now c.in-Some.step.now c.args.code V9 c.in-Some.ensures.cases.0 c.row_at-row.ensures c.in-V9.is
    c.same_unique.result (subst (λ (u : ℕ). IfOk c.same_unique.result (λ text. string_bytes text ≡ same_unique (view c.args.schema.now)
    (row_view c.row_at-row.result.now) (place_view c.in-Some.above.now) (step_view c.in-Some.step.now) u)) c.unique_in.ensures c.same_unique.ensures)

pub same_item-requires-clause-fellow : goal.same_item-requires-clause-fellow
same_item-requires-clause-fellow c =
    c.requires ∙ (ap (fellow_at (view c.args.schema.now) (tree_view c.args.tree.now) (place_view c.args.steps.now) (info_view c.args.info.now)) (ap code_view c.in-V10.is)
    ∙ fellow_at_last (view c.args.schema.now) (tree_view c.args.tree.now) (row_view c.row_at-row.result.now) (info_view c.args.info.now) (code_view V10)
    c.args.steps.now c.in-Some.above.now c.in-Some.step.now c.in-Some.ensures.cases.0 c.row_at-row.ensures)

pub returns-in-V10 : goal.returns-in-V10
returns-in-V10 c = said_of_last (view c.args.schema.now) (tree_view c.args.tree.now) (row_view c.row_at-row.result.now) (info_view c.args.info.now)
    c.args.steps.now c.in-Some.above.now c.in-Some.step.now c.args.code V10 c.in-Some.ensures.cases.0 c.row_at-row.ensures c.in-V10.is
    c.same_item.result c.same_item.ensures

pub returns-in-V11 : goal.returns-in-V11
returns-in-V11 c = said_of_last (view c.args.schema.now) (tree_view c.args.tree.now) (row_view c.row_at-row.result.now) (info_view c.args.info.now)
    c.args.steps.now c.in-Some.above.now c.in-Some.step.now c.args.code V11 c.in-Some.ensures.cases.0 c.row_at-row.ensures c.in-V11.is
    c.no_target.result c.no_target.ensures

pub returns-in-V12 : goal.returns-in-V12
returns-in-V12 c = said_of_last (view c.args.schema.now) (tree_view c.args.tree.now) (row_view c.row_at-row.result.now) (info_view c.args.info.now)
    c.args.steps.now c.in-Some.above.now c.in-Some.step.now c.args.code V12 c.in-Some.ensures.cases.0 c.row_at-row.ensures c.in-V12.is
    c.state_stored.result c.state_stored.ensures

-- the row to the last step is in order where the document is

pub wrong_value-requires : goal.wrong_value-requires
wrong_value-requires c = record { order = λ is. row_in_order (tree_view c.args.tree.now) (row_view c.row_at-row.result.now) (place_view c.in-Some.above.now) c.row_at-row.ensures (c.is_in_order-in_order.ensures is) }

pub same_key-requires-clause-order : goal.same_key-requires-clause-order
same_key-requires-clause-order c is = row_in_order (tree_view c.args.tree.now) (row_view c.row_at-row.result.now) (place_view c.in-Some.above.now) c.row_at-row.ensures (c.is_in_order-in_order.ensures is)

pub same_unique-requires-clause-order : goal.same_unique-requires-clause-order
same_unique-requires-clause-order c is = row_in_order (tree_view c.args.tree.now) (row_view c.row_at-row.result.now) (place_view c.in-Some.above.now) c.row_at-row.ensures (c.is_in_order-in_order.ensures is)

pub same_item-requires-clause-order : goal.same_item-requires-clause-order
same_item-requires-clause-order c is = row_in_order (tree_view c.args.tree.now) (row_view c.row_at-row.result.now) (place_view c.in-Some.above.now) c.row_at-row.ensures (c.is_in_order-in_order.ensures is)

pub no_target-requires : goal.no_target-requires
no_target-requires c = record { order = λ is. row_in_order (tree_view c.args.tree.now) (row_view c.row_at-row.result.now) (place_view c.in-Some.above.now) c.row_at-row.ensures (c.is_in_order-in_order.ensures is) }

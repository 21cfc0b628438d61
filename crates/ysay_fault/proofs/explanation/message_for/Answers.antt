use Rattle.yschema_model.specs.View.{view}
use Rattle.yinst_tree.specs.View.{row_view, tree_view, place_view}
use Rattle.ysay_place.proofs.PlaceLemmas.{row_in_order}
use Rattle.ysay_fault.proofs.SentenceLemmas.{own_of_last}
use Rattle.ysay_fault.proofs.explanation.message_for.Goals as goal

pub returns-in-Some : goal.returns-in-Some
returns-in-Some c = own_of_last (view c.args.schema.now) (tree_view c.args.tree.now) (row_view c.row_at-row.result.now)
    c.args.steps.now c.in-Some.above.now c.in-Some.step.now c.in-Some.ensures.cases.0 c.row_at-row.ensures
    c.message_to.result c.message_to.ensures

pub message_to-requires : goal.message_to-requires
message_to-requires c = record { order = λ is. row_in_order (tree_view c.args.tree.now) (row_view c.row_at-row.result.now) (place_view c.in-Some.above.now) c.row_at-row.ensures (c.is_in_order.ensures is) }

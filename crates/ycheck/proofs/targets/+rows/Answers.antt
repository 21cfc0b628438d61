use Rattle.std.proofs.Common.{◌+◌, refl, arith, drop, [], sym, subst, ap, ◌∙◌}
use Rattle.std.proofs.lemmas.Result.{on_ok_weaker}
use Rattle.yspec.specs.document.Document.{instances_in}
use Rattle.yspec.specs.document.Sorting.{IsSorted}
use Rattle.yspec.specs.schema.Schema.{children_of}
use Rattle.yschema_model.specs.View as schema_view
use Rattle.yinst_tree.specs.View as document_view
use Rattle.ycheck.specs.Targets.{times_of_row, times_of_node, times_used, own_value}
use Rattle.ycheck.proofs.CaseLemmas.{no_case, left_at, left_ended}
use Rattle.ycheck.proofs.TargetLemmas.{still_all_left, still_more, left_times, stored_next, stored_ended, gathers_both, node_parts}
use Rattle.ycheck.proofs.targets.+rows.Goals as goal

pub add_row-loop-stored-init : goal.add_row-loop-stored-init
add_row-loop-stored-init t c = λ sorted.
    let s = schema_view.view c.args.schema.now in
    let f = schema_view.row_view c.args.children in
    let row = document_view.row_view c.args.row.now in (
      sorted,
      still_more c.args.targets.now c.args.targets.now c.add_in_use.new.targets (times_of_row s f row) (times_of_row s f row) (times_used (instances_in row) [] f) (left_times s row)
          (still_all_left c.args.targets.now (times_of_row s f row)) (c.in_ok-add_in_use.ensures [] sorted (no_case (instances_in row) f)) (λ number v. refl),
    )

pub add_row-loop-stored-preserved : goal.add_row-loop-stored-preserved
add_row-loop-stored-preserved t c = λ sorted.
    let s = schema_view.view c.args.schema.now in
    let row = c.args.row.now in
    let st = document_view.view c.stored-item.result in
    stored_next s (document_view.row_view (drop c.loop-stored.stored-index row)) (document_view.row_view (drop (c.loop-stored.stored-index + 1) row)) st.0 st.1
    c.args.targets.now c.loop-stored.targets c.add_stored.new.targets (times_of_row s (schema_view.row_view c.args.children) (document_view.row_view row))
    (left_at row c.loop-stored.stored-index c.stored-item.result (omega arith) c.stored-item.is) c.in_ok-add_stored.ensures (c.loop-stored.invariant sorted)

pub add_row-returns : goal.add_row-returns
add_row-returns t c = λ sorted.
    let s = schema_view.view c.args.schema.now in
    let row = c.args.row.now in
    stored_ended s (document_view.row_view (drop c.loop-stored.stored-index row)) c.args.targets.now c.loop-stored.targets
    (times_of_row s (schema_view.row_view c.args.children) (document_view.row_view row)) (left_ended row c.loop-stored.stored-index (omega arith)) (c.loop-stored.invariant sorted).1

pub add_stored-returns : goal.add_stored-returns
add_stored-returns t c =
    let s = schema_view.view c.args.schema.now in
    let st = document_view.view c.args.stored.now in
    let f = schema_view.row_view c.children-children.result in
    let row = document_view.row_view c.below.result.now in
    on_ok_weaker c.add_row.result (λ so sorted.
    gathers_both c.args.targets.now c.add_own.new.targets c.add_row.new.targets (own_value s st.0) (times_of_row s f row) (times_of_node s st.0 st.1)
    c.in_ok-add_own.ensures (so (subst IsSorted (sym c.below.ensures.below) sorted))
    (node_parts s st.0 st.1 row f (c.children-children.ensures ∙ ap (children_of s) c.id.ensures) c.below.ensures.below)) c.add_row.ensures

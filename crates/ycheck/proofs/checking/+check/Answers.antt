use Rattle.std.proofs.Common.{◌+◌, List, None, ap, ap₂, sym, subst, drop, map, arith, ◌∙◌}
use Rattle.std.proofs.lemmas.Result.{on_ok_weaker}
use Rattle.yspec.specs.Forest.{Forest, end, size}
use Rattle.yspec.specs.schema.Schema.{SchemaNode, is_data, is_many, has_value, container}
use Rattle.yspec.specs.document.Document.{Step, Tree, instances_in, step_to}
use Rattle.yspec.specs.document.Fault.{Fault}
use Rattle.yspec.specs.document.Faults.{under}
use Rattle.yspec.specs.document.Play.{stored_cases}
use Rattle.yspec.specs.document.Sorting.{IsSorted}
use Rattle.yschema_model.specs.Layout.{number_of}
use Rattle.yschema_model.specs.View as schema_view
use Rattle.yinst_tree.specs.View.{view, row_view}
use Rattle.yinst_tree.specs.Walk.{mine, others}
use Rattle.ycheck.specs.Cases.{chosen_from, how_many}
use Rattle.ycheck.specs.declared.cases.Chosen.{Chosen}
use Rattle.ycheck.specs.declared.cases.Chosen.TheVariants as variant
use Rattle.ycheck.specs.Walk.{times_of, value_told, marks_at, marks_told, table_of, amount_told, absent_told, each_told, each_of, position_at, instance_told, instances_told, choice_told, walked}
use Rattle.ycheck.proofs.CaseLemmas.{left_at, left_ended, sorted_others}
use Rattle.ycheck.proofs.FoundLemmas.{adds_same, adds_both, adds_below, leaves_all, leaves_after, leaves_none}
use Rattle.ycheck.proofs.MarkLemmas.{marks_are}
use Rattle.ycheck.proofs.WalkLemmas.{sorted_mine, sorted_at, no_row, next_walked, data_walked, inside_walked, length_row, present_some, choice_inside, container_absent}
use Rattle.ycheck.proofs.checking.+check.Goals as goal

pub check_row-loop-child-preserved : goal.check_row-loop-child-preserved
check_row-loop-child-preserved t c =
    let child = c.in-Some.child in
    let told = times_of c.args.targets.now in
    let schema = schema_view.view c.args.schema.now in
    let row = schema_view.row_view c.loop-child.child-iterator in
    let others_row = schema_view.row_view c.next.new.self in
    let is = c.in-Some.ensures.steps in
    let behind = row_view c.in_ok-rest.rest.now in
    record {
      more = tt;
      ends = tt;
      smaller = omega (arith, ap size is, c.loop-child.invariant.smaller);
      sorted = λ sorted. subst IsSorted (sym c.in_ok-rest.ensures.behind)
          (sorted_others (schema_view.label_of child).number (row_view c.loop-child.rest.now) (c.loop-child.invariant.sorted sorted));
      found = λ sorted. leaves_after _ _ _ _ (walked told schema c.args.chosen others_row behind) _ _
          (next_walked told schema c.args.chosen row (schema_view.label_of child) (schema_view.below_of child) others_row (row_view c.loop-child.rest.now) behind is c.in_ok-rest.ensures.behind)
          (c.loop-child.invariant.found sorted) (c.in_ok-rest.ensures.found (c.loop-child.invariant.sorted sorted));
    }

pub check_row-returns : goal.check_row-returns
check_row-returns t c = λ sorted.
    leaves_none _ _ _ _ (no_row (times_of c.args.targets.now) (schema_view.view c.args.schema.now) c.args.chosen (schema_view.row_view c.loop-child.child-iterator)
    (row_view c.loop-child.rest.now) c.in-None.ensures.steps.0) (c.loop-child.invariant.found sorted)

pub check_child-returns-in_ok-check_data-clause-found : goal.check_child-returns-in_ok-check_data-clause-found
check_child-returns-in_ok-check_data-clause-found t c = λ sorted.
    let n = schema_view.label_of c.args.child in
    let rest = row_view c.args.rest.now in
    let found = c.instances_of.ensures.found ∙ ap (λ k. mine k rest) c.id.ensures in
    adds_same _ _ _ _ (data_walked (times_of c.args.targets.now) (schema_view.view c.args.schema.now) c.args.chosen n (schema_view.below_of c.args.child) rest (row_view c.instances_of.result.0.now)
    (sym (ap (λ x. is_data x.kind) c.node.ensures) ∙ (sym c.is_data.ensures ∙ c.if-is_data.true)) found)
    (c.in_ok-check_data.ensures (subst IsSorted (sym found) (sorted_mine n.number rest sorted)))

pub check_child-returns-in_ok-check_inside-clause-found : goal.check_child-returns-in_ok-check_inside-clause-found
check_child-returns-in_ok-check_inside-clause-found t c = λ sorted.
    let n = schema_view.label_of c.args.child in
    let rest = row_view c.args.rest.now in
    let behind = c.instances_of.ensures.behind ∙ ap (λ k. others k rest) c.id.ensures in
    adds_same _ _ _ _ (inside_walked (times_of c.args.targets.now) (schema_view.view c.args.schema.now) c.args.chosen n (schema_view.below_of c.args.child) rest (row_view c.instances_of.result.1.now)
    (sym (ap (λ x. is_data x.kind) c.node.ensures) ∙ (sym c.is_data.ensures ∙ c.if-is_data.false)) behind)
    (c.in_ok-check_inside.ensures (subst IsSorted (sym behind) (sorted_others n.number rest sorted)))

pub check_inside-returns-in_ok-check_choice-in-Choice : goal.check_inside-returns-in_ok-check_choice-in-Choice
check_inside-returns-in_ok-check_choice-in-Choice t c = λ sorted.
    let n = schema_view.label_of c.args.child in
    let below = schema_view.below_of c.args.child in
    let rest = row_view c.args.rest.now in
    let told : Chosen → Forest SchemaNode → List Fault = λ d f. walked (times_of c.args.targets.now) (schema_view.view c.args.schema.now) d f rest in
    let inside : Chosen → Tree → List Fault = λ d u. walked (times_of c.args.targets.now) (schema_view.view c.args.schema.now) d below u in
    let kind = sym (ap (λ x. x.kind) c.node-node.ensures) ∙ ap schema_view.kind_view c.in-Choice.is in
    let stored = c.of-stored.ensures sorted ∙ ap (λ f. how_many (stored_cases (instances_in rest) f)) c.children.ensures in
    on_ok_weaker c.check_row.result (λ row. adds_same _ _ _ _
    (choice_inside n n.kind c.args.chosen below inside rest (number_of c.in-Choice.default_case) c.in-Choice.mandatory kind)
    (adds_both _ _ _ _ _
    (adds_same _ _ _ _ (ap₂ (λ name s. choice_told name c.in-Choice.mandatory s) (ap (λ x. x.name) c.node-node.ensures) stored) c.in_ok-check_choice-in-Choice.ensures)
    (adds_same _ _ _ _ (ap₂ told (c.of-chosen.ensures.same ∙ ap (chosen_from (number_of c.in-Choice.default_case)) stored) c.children-in-Choice.ensures) row)))
    (c.check_row.ensures sorted)

pub check_data-returns-else-is_empty : goal.check_data-returns-else-is_empty
check_data-returns-else-is_empty t c = λ sorted.
    let n = schema_view.label_of c.args.child in
    let told = times_of c.args.targets.now in
    let schema = schema_view.view c.args.schema.now in
    let inside : Tree → List Fault = λ u. walked told schema variant.NoCase (schema_view.below_of c.args.child) u in
    let row = c.args.found.now in
    on_ok_weaker c.check_found.result (λ found. adds_both _ _ _ _ _
    (adds_same _ _ _ _ (ap (amount_told n.number n.kind) (length_row row)) c.in_ok-check_amount.ensures)
    (adds_same _ _ _ _ (present_some row (absent_told n.number n.kind (inside end)) (instances_told told schema n n.kind inside (row_view row)) (sym c.is_empty.ensures ∙ c.if-is_empty.false)) found))
    (c.check_found.ensures sorted)

pub check_absent-returns-in_ok-check_row-in-Container-false : goal.check_absent-returns-in_ok-check_row-in-Container-false
check_absent-returns-in_ok-check_row-in-Container-false t c =
    let n = schema_view.label_of c.args.child in
    let told : Forest SchemaNode → List Fault = λ f. walked (times_of c.args.targets.now) (schema_view.view c.args.schema.now) variant.NoCase f end in
    let kind = sym (ap (λ x. x.kind) c.node.ensures) ∙ (ap schema_view.kind_view c.in-Container-false.is ∙ ap container (sym c.in-Container-false.presence-is ∙ c.in-Container-false.presence-test)) in
    adds_same _ _ _ _
    (ap (λ k. map (under (step_to k)) (told (schema_view.below_of c.args.child))) c.id.ensures ∙ container_absent n.number n.kind (told (schema_view.below_of c.args.child)) kind)
    (adds_below _ _ _ _ (record { id = c.id.result; position = None }) _ c.in_ok-enter-in-Container-false.ensures.place c.in_ok-enter-in-Container-false.ensures.found
    (adds_same _ _ _ _ (ap told c.children-inside.ensures) (c.in_ok-check_row-in-Container-false.ensures tt))
    c.leave.ensures.place c.leave.ensures.found)

pub check_found-loop-index-init : goal.check_found-loop-index-init
check_found-loop-index-init t c = λ sorted. leaves_all _ _

pub check_found-loop-index-preserved : goal.check_found-loop-index-preserved
check_found-loop-index-preserved t c = λ sorted.
    let n = schema_view.label_of c.args.child in
    let told = times_of c.args.targets.now in
    let schema = schema_view.view c.args.schema.now in
    let below = schema_view.below_of c.args.child in
    let inside : Tree → List Fault = λ u. walked told schema variant.NoCase below u in
    let row = c.args.found.now in
    let i = c.loop-index.index in
    let s = c.index-found-index.result in
    let kind = ap (λ x. x.kind) c.node-node.ensures in
    let left = left_at row i s (omega arith) c.index-found-index.is in
    let said = instance_told told schema n n.kind inside (row_view row) in
    let table = ap (λ vs. map (λ marks. marks.items) vs) c.deref.ensures.value ∙ (c.in_ok-repeated.ensures
    ∙ ap₂ (λ k g. table_of schema k g row) kind (ap (λ x. x.distinct_items) c.node-node.ensures)) in
    let step : Step = record { schema_number = n.number; position = position_at (is_many n.kind) (i + 1) } in
    let at = ap₂ (λ k p. record { schema_number = k; position = p }) c.id.ensures (c.position_of-position.ensures ∙ ap (λ k. position_at (is_many k) (i + 1)) kind) in
    leaves_after _ _ _ (map (under step) (said (view s).0 (view s).1)) _ _ _
    (ap (λ u. each_told (is_many n.kind) n.number (i + 1) (each_of said u)) left)
    (c.loop-index.invariant sorted)
    (adds_same _ _ _ _ (ap (λ (x : Step). map (under x) (said (view s).0 (view s).1)) at)
    (adds_below _ _ _ _ (record { id = c.id.result; position = c.position_of-position.result }) _ c.in_ok-enter.ensures.place c.in_ok-enter.ensures.found
    (adds_both _ _ _ _ _
    (adds_same _ _ _ _ (ap₂ (value_told told) kind c.value.ensures) c.in_ok-check_value.ensures)
    (adds_both _ _ _ _ _
    (adds_same _ _ _ _ (ap₂ (λ k ls. marks_told (has_value k) 0 (marks_at i ls)) kind table
    ∙ ap (marks_told (has_value n.kind) 0) (marks_are schema row i s (omega arith) c.index-found-index.is n.kind n.distinct_items)) c.in_ok-tell_repeated.ensures)
    (adds_same _ _ _ _ (ap₂ (λ f u. walked told schema variant.NoCase f u) c.children.ensures c.below-below.ensures.below)
    (c.in_ok-check_row.ensures (subst IsSorted (sym c.below-below.ensures.below) (sorted_at row i (view s).0 (view s).1 (row_view (drop (i + 1) row)) left sorted))))))
    c.leave.ensures.place c.leave.ensures.found))

pub check_found-returns : goal.check_found-returns
check_found-returns t c = λ sorted.
    let n = schema_view.label_of c.args.child in
    let told = times_of c.args.targets.now in
    let schema = schema_view.view c.args.schema.now in
    let inside : Tree → List Fault = λ u. walked told schema variant.NoCase (schema_view.below_of c.args.child) u in
    let row = c.args.found.now in
    leaves_none _ _ _ _ (ap (λ u. each_told (is_many n.kind) n.number (c.loop-index.index + 1) (each_of (instance_told told schema n n.kind inside (row_view row)) u))
    (left_ended row c.loop-index.index (omega arith))) (c.loop-index.invariant sorted)

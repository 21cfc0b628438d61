use Rattle.std.proofs.Common.{◌≡◌, true, false, Some, option_map, sym, ap, ◌∙◌}
use Rattle.serde_json.specs.Find.{get_member}
use Rattle.serde_json.specs.View as json
use Rattle.yspec.specs.schema.Schema as spec
use Rattle.yspec.specs.schema.Schema.{is_data, is_many, written_name}
use Rattle.yschema_model.specs.View as schema_view
use Rattle.yinst_tree.specs.View.{row_view}
use Rattle.yinst_tree.specs.Taking.{without, taken_in}
use Rattle.yinst_tree.proofs.ValueLemmas.{not_array}
use Rattle.yinst_tree.proofs.RowLemmas.{row_pushed, at_no_items, item_on, items_end, seen_as, on_ok, fewer_after}
use Rattle.yinst_tree.proofs.TakingLemmas.{next_taken, all_taken, data_taken, none_taken, inside_taken, node_taken}
use Rattle.yinst_tree.proofs.reading.+rows.Goals as goal

pub put_child-returns-in-Some : goal.put_child-returns-in-Some
put_child-returns-in-Some t c =
    let s = schema_view.view c.args.schema.now in
    let ms = json.members_view c.args.members.now.entries in
    let n = schema_view.label_of c.args.child in
    let stands : is_data n.kind ≡ true = ap (λ (n : spec.SchemaNode). is_data n.kind) (sym c.node.ensures) ∙ (sym c.is_data.ensures ∙ c.if-is_data.true) in
    let here = c.in_ok-value.ensures.found ∙ ap (λ m. get_member (written_name s c.args.parent_module m) ms) c.node-then-is_data.ensures in
    let left = c.in_ok-value.ensures.left ∙ ap (λ m. without (written_name s c.args.parent_module m) ms) c.node-then-is_data.ensures in
    on_ok c.put_instances.result (λ put. data_taken s c.args.parent_module n (schema_view.below_of c.args.child) ms _ (Some (json.view c.in-Some.value)) (row_view c.args.row.now.items) _ stands
    (sym (ap (option_map json.view) c.in-Some.is) ∙ here) left put) c.put_instances.ensures

pub put_child-returns-in-None : goal.put_child-returns-in-None
put_child-returns-in-None t c =
    let s = schema_view.view c.args.schema.now in
    let ms = json.members_view c.args.members.now.entries in
    let n = schema_view.label_of c.args.child in
    let stands : is_data n.kind ≡ true = ap (λ (n : spec.SchemaNode). is_data n.kind) (sym c.node.ensures) ∙ (sym c.is_data.ensures ∙ c.if-is_data.true) in
    let here = c.in_ok-value.ensures.found ∙ ap (λ m. get_member (written_name s c.args.parent_module m) ms) c.node-then-is_data.ensures in
    let left = c.in_ok-value.ensures.left ∙ ap (λ m. without (written_name s c.args.parent_module m) ms) c.node-then-is_data.ensures in
    none_taken s c.args.parent_module n (schema_view.below_of c.args.child) ms _ (option_map json.view c.in_ok-value.field-0) (row_view c.args.row.now.items) stands here
    (ap (option_map json.view) c.in-None.is) left

pub put_child-returns-else-is_data : goal.put_child-returns-else-is_data
put_child-returns-else-is_data t c =
    let n = schema_view.label_of c.args.child in
    let choice : is_data n.kind ≡ false = ap (λ (n : spec.SchemaNode). is_data n.kind) (sym c.node.ensures) ∙ (sym c.is_data.ensures ∙ c.if-is_data.false) in
    on_ok c.put_rows.result (λ so. inside_taken (schema_view.view c.args.schema.now) c.args.parent_module n (schema_view.below_of c.args.child) _ _ _ choice c.children.ensures so) c.put_rows.ensures

pub put_instance-returns : goal.put_instance-returns
put_instance-returns t c =
    let s = schema_view.view c.args.schema.now in
    let child = c.args.child in
    row_pushed c.args.row.now.items c.push.new.self.items c.in_ok-stored_node.field-0 _ _ c.in_ok-push.ensures.items
    (seen_as s c.id.result.0 c.node.result.now (schema_view.label_of child) (schema_view.row_view c.children.result) (schema_view.below_of child) (json.view c.args.value)
    c.in_ok-stored_node.field-0 c.id.ensures c.node.ensures c.children.ensures c.in_ok-stored_node.ensures)

pub put_instances-returns-in_default : goal.put_instances-returns-in_default
put_instances-returns-in_default t c =
    let n = schema_view.label_of c.args.child in
    let many : is_many n.kind ≡ true = ap (λ (n : spec.SchemaNode). is_many n.kind) (sym c.node.ensures) ∙ (sym c.is_many.ensures ∙ c.if-is_many.true) in
    at_no_items n (taken_in (schema_view.view c.args.schema.now) n (schema_view.below_of c.args.child)) (json.view c.args.value) (row_view c.args.row.now.items) many
    (not_array c.args.value c.in_default.not-Array)

pub put_items-loop-item-preserved : goal.put_items-loop-item-preserved
put_items-loop-item-preserved t c =
    let n = schema_view.label_of c.args.child in
    item_on n (taken_in (schema_view.view c.args.schema.now) n (schema_view.below_of c.args.child)) _ _ c.in-Some.item
    (row_view c.loop-item.row.items) (row_view c.put_instance.new.row.items) _ c.in-Some.ensures.steps.0 c.in_ok-put_instance.ensures c.loop-item.invariant

pub put_items-returns : goal.put_items-returns
put_items-returns t c =
    let n = schema_view.label_of c.args.child in
    items_end n (taken_in (schema_view.view c.args.schema.now) n (schema_view.below_of c.args.child)) _ _ (row_view c.loop-item.row.items) _
    c.in-None.ensures.steps.0 c.loop-item.item-iterator.rest.ok.0 c.loop-item.invariant

pub put_rows-loop-child-preserved : goal.put_rows-loop-child-preserved
put_rows-loop-child-preserved t c =
    let child = c.in-Some.child in
    record {
      more = tt;
      ends = tt;
      smaller = fewer_after (schema_view.label_of child) (schema_view.below_of child) (schema_view.row_view c.next.new.self) (schema_view.row_view c.loop-child.child-iterator) _
          c.in-Some.ensures.steps c.loop-child.invariant.smaller;
      rows = next_taken (schema_view.view c.args.schema.now) c.args.parent_module (schema_view.row_view c.loop-child.child-iterator) (schema_view.label_of child) (schema_view.below_of child)
          (schema_view.row_view c.next.new.self) _ _ _
          c.in-Some.ensures.steps c.in_ok-put_child.ensures c.loop-child.invariant.rows;
    }

pub put_rows-returns : goal.put_rows-returns
put_rows-returns t c =
    sym c.loop-child.invariant.rows ∙ all_taken (schema_view.view c.args.schema.now) c.args.parent_module (schema_view.row_view c.loop-child.child-iterator) _ c.in-None.ensures.steps.0

pub stored_node-returns : goal.stored_node-returns
stored_node-returns t c =
    node_taken (schema_view.view c.args.schema.now) (schema_view.node_view c.args.id.0 c.args.node.now) (schema_view.row_view c.args.children) (json.view c.args.value) c.new.result
    _ _ _ _ _ c.new.ensures.node c.in_ok-held.ensures.0 c.new.ensures.below c.in_ok-held.ensures.1 (ap row_view c.in_ok-below.ensures.items) c.in_ok-put_rows.ensures

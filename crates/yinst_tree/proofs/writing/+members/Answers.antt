use Rattle.std.proofs.lemmas.Result.{IfOk-weaker}
use Rattle.std.proofs.Common.{Some, sym, ap, ◌∙◌, arith}
use Rattle.serde_json.specs.View as json
use Rattle.yspec.specs.Forest.{size}
use Rattle.yspec.specs.schema.Schema.{is_data}
use Rattle.yschema_model.specs.View as schema_view
use Rattle.yinst_tree.specs.View.{row_view}
use Rattle.yinst_tree.specs.Walk.{mine, others, walked, members_in}
use Rattle.yinst_tree.proofs.WriteLemmas.{next_walked, all_walked, data_walked, inside_walked, next_item, all_items}
use Rattle.yinst_tree.proofs.writing.+members.Goals as goal

pub items_of-loop-stored-preserved : goal.items_of-loop-stored-preserved
items_of-loop-stored-preserved t c =
    let n = schema_view.label_of c.args.child in
    next_item n.kind (members_in (schema_view.view c.args.schema.now) (Some n.module_number) (schema_view.below_of c.args.child)) c.args.found.now c.loop-stored.stored-index c.stored-item.result
    c.loop-stored.items.items c.push.new.self.items c.in_ok-value_of.field-0 _ (omega arith) c.stored-item.is c.in_ok-value_of.ensures c.in_ok-push.ensures.items c.loop-stored.invariant

pub items_of-returns : goal.items_of-returns
items_of-returns t c =
    let n = schema_view.label_of c.args.child in
    all_items n.kind (members_in (schema_view.view c.args.schema.now) (Some n.module_number) (schema_view.below_of c.args.child)) c.args.found.now c.loop-stored.stored-index c.loop-stored.items.items _
    (omega arith) c.loop-stored.invariant

pub put_child-returns-in_ok-put_instances : goal.put_child-returns-in_ok-put_instances
put_child-returns-in_ok-put_instances t c =
    let rest = row_view c.args.rest.now in
    data_walked (schema_view.view c.args.schema.now) c.args.parent_module (schema_view.label_of c.args.child) (schema_view.below_of c.args.child)
    (json.members_view c.args.members.now.entries) (json.members_view c.put_instances.new.members.entries) rest (row_view c.instances_of.result.0.now) (row_view c.instances_of.result.1.now)
    (sym (ap (λ x. is_data x.kind) c.node.ensures) ∙ (sym c.is_data.ensures ∙ c.if-is_data.true))
    (c.instances_of.ensures.found ∙ ap (λ k. mine k rest) c.id.ensures) (c.instances_of.ensures.behind ∙ ap (λ k. others k rest) c.id.ensures) c.in_ok-put_instances.ensures

pub put_child-returns-else-is_data : goal.put_child-returns-else-is_data
put_child-returns-else-is_data t c =
    IfOk-weaker c.put_row.result _ _ (λ behind so.
    inside_walked (schema_view.view c.args.schema.now) c.args.parent_module (schema_view.label_of c.args.child) (schema_view.below_of c.args.child)
    (json.members_view c.args.members.now.entries, row_view c.args.rest.now) (json.members_view c.put_row.new.members.entries, row_view behind.now)
    (sym (ap (λ x. is_data x.kind) c.node.ensures) ∙ (sym c.is_data.ensures ∙ c.if-is_data.false))
    (sym (ap (λ f. walked (schema_view.view c.args.schema.now) c.args.parent_module f (json.members_view c.args.members.now.entries, row_view c.args.rest.now)) c.children-inside.ensures) ∙ so))
    c.put_row.ensures

pub put_row-loop-child-preserved : goal.put_row-loop-child-preserved
put_row-loop-child-preserved t c =
    let child = c.in-Some.child in
    let is = c.in-Some.ensures.steps in
    record {
      more = tt;
      ends = tt;
      smaller = omega (arith, ap size is, c.loop-child.invariant.smaller);
      walked = next_walked (schema_view.view c.args.schema.now) c.args.parent_module (schema_view.row_view c.loop-child.child-iterator) (schema_view.label_of child) (schema_view.below_of child) (schema_view.row_view c.next.new.self)
          (json.members_view c.loop-child.members.entries, row_view c.loop-child.rest.now) (json.members_view c.put_child.new.members.entries, row_view c.in_ok-rest.rest.now) _
          is c.in_ok-rest.ensures c.loop-child.invariant.walked;
    }

pub put_row-returns : goal.put_row-returns
put_row-returns t c =
    sym (c.loop-child.invariant.walked) ∙ all_walked (schema_view.view c.args.schema.now) c.args.parent_module (schema_view.row_view c.loop-child.child-iterator)
    (json.members_view c.loop-child.members.entries, row_view c.loop-child.rest.now) c.in-None.ensures.steps.0

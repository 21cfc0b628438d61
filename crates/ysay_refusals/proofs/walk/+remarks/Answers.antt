use Rattle.std.proofs.Common.{◌≡◌, ◌+◌, ◌++◌, ◌∷◌, [], Some, None, sym, ap, ◌∙◌, string_bytes, option_map, arith, refl}
use Rattle.serde_json.specs.Data.{array}
use Rattle.serde_json.specs.View as json
use Rattle.serde_json.proofs.Views.{view-Array, view-Object}
use Rattle.yspec.specs.schema.Schema.{node_at, form_in}
use Rattle.yschema_model.specs.Layout.{number_of}
use Rattle.yschema_model.specs.View.{view, node_view}
use Rattle.yinst_tree.specs.View.{place_view, step_view}
use Rattle.yinst_tree.specs.declared.tree.Step.{Step}
use Rattle.ysay_refusals.specs.Remarks.{of_value, leaf_remarks, member_remarks}
use Rattle.ysay_refusals.specs.View.{remarks_view}
use Rattle.ysay_refusals.proofs.RemarkLemmas.{as_before, added_front, added_all, added_same, member_first, no_member, item_first, no_item, remarks_one, remarks_array, remarks_no_array, no_array, leaf_at, other_at, object_inside}
use Rattle.ysay_refusals.proofs.walk.+remarks.Goals as goal

-- ---- members

pub remark_members-loop-name-preserved : goal.remark_members-loop-name-preserved
remark_members-loop-name-preserved t c =
    let s = view c.args.schema.now in
    let p = number_of c.args.parent in
    let place = place_view c.args.place.now.items in (
      c.in_ok-remark_member.ensures.place ∙ c.loop-name.invariant.0,
      added_front (remarks_view c.loop-name.remarks.items) _ _ (member_remarks s p place (json.members_view c.loop-name.name-iterator))
          (member_remarks s p place (json.members_view c.next.new.self)) _
          (member_first s p place (place_view c.loop-name.place.items) (string_bytes c.in-Some.name.now) c.as_str.result.now (json.view c.in-Some.value.now)
          (json.members_view c.loop-name.name-iterator) (json.members_view c.next.new.self) (ap json.members_view c.in-Some.ensures.steps) c.as_str.ensures.value (ap place_view c.loop-name.invariant.0))
          c.in_ok-remark_member.ensures.adds c.loop-name.invariant.1,
    )

pub remark_members-returns-clause-adds : goal.remark_members-returns-clause-adds
remark_members-returns-clause-adds t c =
    let s = view c.args.schema.now in
    let p = number_of c.args.parent in
    let place = place_view c.args.place.now.items in
    added_all (remarks_view c.loop-name.remarks.items) _ _
    (no_member s p place (json.members_view c.loop-name.name-iterator) (ap json.members_view c.in-None.ensures.steps.0)) c.loop-name.invariant.1

-- ---- the value of a member

pub remark_node-returns-in-Array-clause-adds : goal.remark_node-returns-in-Array-clause-adds
remark_node-returns-in-Array-clause-adds t c =
    let s = view c.args.schema.now in
    let i = c.args.id.0 in
    let n = node_view i c.in-Some.node.now in
    let d = json.view c.args.value.now in
    let at : node_at s i ≡ Some n = sym c.kind.ensures ∙ ap (option_map (λ m. node_view i m.now)) c.in-Some.is in
    let array_so = ap json.view c.in-Array.is ∙ (view-Array c.in-Array.items ∙ ap (λ vs. array (json.items_view vs)) (sym c.deref.ensures.value)) in
    added_same c.remark_items.result _ _ _ _
    (remarks_array s i n (place_view c.args.place.now.items) d (json.items_view c.deref.result.now) at (sym c.is_many.ensures ∙ c.if-is_many.true) array_so) c.remark_items.ensures.adds

pub remark_node-returns-in_default-value : goal.remark_node-returns-in_default-value
remark_node-returns-in_default-value t c =
    let s = view c.args.schema.now in
    let i = c.args.id.0 in
    let n = node_view i c.in-Some.node.now in
    let at : node_at s i ≡ Some n = sym c.kind.ensures ∙ ap (option_map (λ m. node_view i m.now)) c.in-Some.is in
    record {
      adds = added_same c.add_below.result _ _ _ _
          (remarks_no_array s i n (place_view c.args.place.now.items) (json.view c.args.value.now) at (sym c.is_many.ensures ∙ c.if-is_many.true)
          (no_array c.args.value.now c.in_default-value.not-Array)) c.add_below.ensures.adds;
      place = c.add_below.ensures.place;
    }

pub remark_node-returns-else-is_many-clause-adds : goal.remark_node-returns-else-is_many-clause-adds
remark_node-returns-else-is_many-clause-adds t c =
    let s = view c.args.schema.now in
    let i = c.args.id.0 in
    let n = node_view i c.in-Some.node.now in
    let at : node_at s i ≡ Some n = sym c.kind.ensures ∙ ap (option_map (λ m. node_view i m.now)) c.in-Some.is in
    let place = place_view c.args.place.now.items in
    let step : Step = record { id = c.args.id; position = None } in
    added_same c.remark_below.result _ _ _ _
    (remarks_one s i n place (place ++ step_view step ∷ []) (json.view c.args.value.now) at (sym c.is_many.ensures ∙ c.if-is_many.false) refl) c.remark_below.ensures.adds

-- ---- items

pub remark_items-loop-index-preserved : goal.remark_items-loop-index-preserved
remark_items-loop-index-preserved t c =
    let s = view c.args.schema.now in
    let i = c.args.id.0 in
    let items = c.args.items.now in
    let index = c.loop-index.index in
    let place = place_view c.args.place.now.items in
    let step : Step = record { id = c.args.id; position = Some (index + 1) } in (
      c.in_ok-remark_below.ensures.place ∙ c.loop-index.invariant.0,
      added_front (remarks_view c.loop-index.remarks.items) _ _ _ _ _
          (item_first s i place (place_view c.loop-index.place.items ++ step_view step ∷ []) items index c.index-items-index.result (omega arith) c.index-items-index.is
          (ap (λ steps. place_view steps ++ step_view step ∷ []) c.loop-index.invariant.0))
          c.in_ok-remark_below.ensures.adds c.loop-index.invariant.1,
    )

pub remark_items-returns-clause-adds : goal.remark_items-returns-clause-adds
remark_items-returns-clause-adds t c =
    let s = view c.args.schema.now in
    let i = c.args.id.0 in
    let place = place_view c.args.place.now.items in
    added_all (remarks_view c.loop-index.remarks.items) _ _
    (no_item s i (c.loop-index.index + 1) place c.args.items.now c.loop-index.index (omega arith)) c.loop-index.invariant.1

-- ---- one instance

pub remark_instance-returns-in-Object-clause-adds : goal.remark_instance-returns-in-Object-clause-adds
remark_instance-returns-in-Object-clause-adds t c =
    let s = view c.args.schema.now in
    let i = c.args.id.0 in
    let n = node_view i c.in-Some.node.now in
    let at : node_at s i ≡ Some n = sym c.kind.ensures ∙ ap (option_map (λ m. node_view i m.now)) c.in-Some.is in
    added_same c.remark_members.result _ _ _ _
    (object_inside s i n (place_view c.args.place.now.items) (json.view c.args.value.now) (json.members_view c.in-Object.members.entries) at
    (ap json.view c.in-Object.is ∙ view-Object c.in-Object.members) (sym c.has_value.ensures ∙ c.if-has_value.false)) c.remark_members.ensures.adds

pub remark_instance-returns-in_default-value : goal.remark_instance-returns-in_default-value
remark_instance-returns-in_default-value t c =
    let s = view c.args.schema.now in
    let i = c.args.id.0 in
    let n = node_view i c.in-Some.node.now in
    let at : node_at s i ≡ Some n = sym c.kind.ensures ∙ ap (option_map (λ m. node_view i m.now)) c.in-Some.is in
    let place = place_view c.args.place.now.items in
    record {
      adds = added_same c.add_value.result _ _ _ _
          (ap (λ steps. of_value 5 (place_view steps) (json.view c.args.value.now) ∷ []) c.deref-in_default-value.ensures.value
          ∙ other_at s i n place c.args.value.now at (sym c.has_value.ensures ∙ c.if-has_value.false) c.in_default-value.not-Object) c.add_value.ensures;
      place = as_before c.add_value.result _;
    }

pub remark_instance-returns-then-has_value-clause-adds : goal.remark_instance-returns-then-has_value-clause-adds
remark_instance-returns-then-has_value-clause-adds t c =
    let s = view c.args.schema.now in
    let i = c.args.id.0 in
    let n = node_view i c.in-Some.node.now in
    let place = place_view c.args.place.now.items in
    let d = json.view c.args.value.now in
    let at : node_at s i ≡ Some n = sym c.kind.ensures ∙ ap (option_map (λ m. node_view i m.now)) c.in-Some.is in
    added_same c.remark_leaf.result _ _ _ _
    (ap (λ form. leaf_remarks form (place_view c.deref.result.now) d) c.form.ensures
    ∙ (ap (λ p. leaf_remarks (form_in n.kind) (place_view p) d) c.deref.ensures.value
    ∙ leaf_at s i n place d at (sym c.has_value.ensures ∙ c.if-has_value.true))) c.remark_leaf.ensures

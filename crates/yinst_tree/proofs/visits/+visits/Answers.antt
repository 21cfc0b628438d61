use Rattle.std.proofs.Common.{◌≡◌, ◌+◌, ◌++◌, Err, ◌∷◌, List, [], Option, Some, None, sym, ap, ◌∙◌, string_bytes, option_map, arith}
use Rattle.std.proofs.lemmas.List.{map_push}
use Rattle.serde_json.specs.Data.{array}
use Rattle.serde_json.specs.View as json
use Rattle.serde_json.proofs.Views.{view-Array, view-Object}
use Rattle.yspec.specs.schema.Schema.{module_at, row_at, node_at, children_of}
use Rattle.yspec.specs.document.Document.{step_at}
use Rattle.yspec.specs.document.Reading.{Refusal, Visit, right, wrong, member_visits, item_visits, leaf_visit}
use Rattle.yschema_model.specs.Layout.{number_of, form_view}
use Rattle.yschema_model.specs.View.{view, node_view}
use Rattle.yinst_tree.specs.View.{place_view, step_view}
use Rattle.yinst_tree.specs.declared.tree.Step.{Step}
use Rattle.yinst_tree.specs.Told.{told_within, visits_at}
use Rattle.yinst_tree.proofs.VisitLemmas.{walks_same, walks_wrong, walks_then, walks_stop, front_right, front_wrong, none_left, member_first, no_member, visits_one, visits_array, visits_no_array, no_array, item_first, no_item, object_inside, leaf_at, other_at, as_before}
use Rattle.yinst_tree.proofs.visits.+visits.Goals as goal

-- ---- members

pub visit_members-loop-name-preserved : goal.visit_members-loop-name-preserved
visit_members-loop-name-preserved t c =
    let s = view c.args.schema.now in
    let p = number_of c.args.parent in
    let place = place_view c.args.place.now.items in
    let whole : List Visit → Option Refusal = λ others. told_within c.args.room (member_visits s (module_at s p) (row_at s p) place (json.members_view c.args.members.now.entries) ++ others) in (
      c.in-Ok.ensures.place ∙ c.loop-name.invariant.0,
      front_right c.loop-name.left c.in-Ok.rest _ (member_visits s (module_at s p) (row_at s p) place (json.members_view c.loop-name.name-iterator))
          (member_visits s (module_at s p) (row_at s p) place (json.members_view c.next.new.self)) whole
          (member_first s (module_at s p) (row_at s p) place (place_view c.loop-name.place.items) (string_bytes c.in-Some.name.now) c.as_str.result.now (json.view c.in-Some.value.now)
          (json.members_view c.loop-name.name-iterator) (json.members_view c.next.new.self) (ap json.members_view c.in-Some.ensures.steps) c.as_str.ensures.value (ap place_view c.loop-name.invariant.0))
          c.in-Ok.ensures.told c.loop-name.invariant.1,
    )

pub visit_members-returns-in-Err-clause-told : goal.visit_members-returns-in-Err-clause-told
visit_members-returns-in-Err-clause-told t c =
    let s = view c.args.schema.now in
    let p = number_of c.args.parent in
    let place = place_view c.args.place.now.items in
    let whole : List Visit → Option Refusal = λ others. told_within c.args.room (member_visits s (module_at s p) (row_at s p) place (json.members_view c.args.members.now.entries) ++ others) in
    front_wrong c.loop-name.left _ (member_visits s (module_at s p) (row_at s p) place (json.members_view c.loop-name.name-iterator))
    (member_visits s (module_at s p) (row_at s p) place (json.members_view c.next.new.self)) whole c.in-Err.fault
    (member_first s (module_at s p) (row_at s p) place (place_view c.loop-name.place.items) (string_bytes c.in-Some.name.now) c.as_str.result.now (json.view c.in-Some.value.now)
    (json.members_view c.loop-name.name-iterator) (json.members_view c.next.new.self) (ap json.members_view c.in-Some.ensures.steps) c.as_str.ensures.value (ap place_view c.loop-name.invariant.0))
    c.in-Err.ensures.told c.loop-name.invariant.1

pub visit_members-returns-clause-told : goal.visit_members-returns-clause-told
visit_members-returns-clause-told t c =
    let s = view c.args.schema.now in
    let p = number_of c.args.parent in
    let place = place_view c.args.place.now.items in
    let whole : List Visit → Option Refusal = λ others. told_within c.args.room (member_visits s (module_at s p) (row_at s p) place (json.members_view c.args.members.now.entries) ++ others) in
    none_left c.loop-name.left _ whole
    (no_member s (module_at s p) (row_at s p) place (json.members_view c.loop-name.name-iterator) (ap json.members_view c.in-None.ensures.steps.0)) c.loop-name.invariant.1

-- ---- the value of a member

pub visit_node-returns-in-Array-clause-told : goal.visit_node-returns-in-Array-clause-told
visit_node-returns-in-Array-clause-told t c =
    let s = view c.args.schema.now in
    let i = c.args.id.0 in
    let n = node_view i c.in-Some.node.now in
    let d = json.view c.args.value.now in
    let at : node_at s i ≡ Some n = sym c.kind.ensures ∙ ap (option_map (λ m. node_view i m.now)) c.in-Some.is in
    let array_so = ap json.view c.in-Array.is ∙ (view-Array c.in-Array.items ∙ ap (λ vs. array (json.items_view vs)) (sym c.deref.ensures.value)) in
    walks_same c.args.room _ _ c.visit_items.result
    (visits_array s i n (place_view c.args.place.now.items) d (json.items_view c.deref.result.now) at (sym c.is_many.ensures ∙ c.if-is_many.true) array_so) c.visit_items.ensures.told

pub visit_node-returns-in_default-value : goal.visit_node-returns-in_default-value
visit_node-returns-in_default-value t c =
    let s = view c.args.schema.now in
    let i = c.args.id.0 in
    let n = node_view i c.in-Some.node.now in
    let place = place_view c.args.place.now.items in
    let at : node_at s i ≡ Some n = sym c.kind.ensures ∙ ap (option_map (λ m. node_view i m.now)) c.in-Some.is in
    let step : Step = record { id = c.args.id; position = None } in
    let here = place_view (c.args.place.now.items ++ step ∷ []) in
    record {
      told = walks_wrong c.args.room _ 5 here c.refused_below.result
          (visits_no_array s i n place here (json.view c.args.value.now) at (sym c.is_many.ensures ∙ c.if-is_many.true)
          (no_array c.args.value.now c.in_default-value.not-Array) (map_push step_view c.args.place.now.items step))
          c.refused_below.ensures;
      place = tt;
    }

pub visit_node-returns-else-is_many-clause-told : goal.visit_node-returns-else-is_many-clause-told
visit_node-returns-else-is_many-clause-told t c =
    let s = view c.args.schema.now in
    let i = c.args.id.0 in
    let n = node_view i c.in-Some.node.now in
    let at : node_at s i ≡ Some n = sym c.kind.ensures ∙ ap (option_map (λ m. node_view i m.now)) c.in-Some.is in
    walks_same c.args.room _ _ c.visit_below.result
    (visits_one s i n (place_view c.args.place.now.items) (place_view (c.args.place.now.items ++ record { id = c.args.id; position = None } ∷ [])) (json.view c.args.value.now) at
    (sym c.is_many.ensures ∙ c.if-is_many.false) (map_push step_view c.args.place.now.items (record { id = c.args.id; position = None }))) c.visit_below.ensures.told

-- ---- items

pub visit_items-loop-index-preserved : goal.visit_items-loop-index-preserved
visit_items-loop-index-preserved t c =
    let s = view c.args.schema.now in
    let i = c.args.id.0 in
    let items = c.args.items.now in
    let index = c.loop-index.index in
    let place = place_view c.args.place.now.items in
    let step : Step = record { id = c.args.id; position = Some (index + 1) } in
    let here : place_view (c.loop-index.place.items ++ step ∷ []) ≡ place ++ step_at i (index + 1) ∷ [] =
    map_push step_view c.loop-index.place.items step ∙ ap (λ steps. place_view steps ++ step_view step ∷ []) c.loop-index.invariant.0 in
    let whole : List Visit → Option Refusal = λ others. told_within c.args.room (visits_at s i (λ n below. item_visits s n below place 1 (json.items_view items)) ++ others) in (
      c.in-Ok.ensures.place ∙ c.loop-index.invariant.0,
      front_right c.loop-index.left c.in-Ok.rest _ _ _ whole
          (item_first s i place (place_view (c.loop-index.place.items ++ step ∷ [])) items index c.index-items-index.result (omega arith) c.index-items-index.is here)
          c.in-Ok.ensures.told c.loop-index.invariant.1,
    )

pub visit_items-returns-in-Err-clause-told : goal.visit_items-returns-in-Err-clause-told
visit_items-returns-in-Err-clause-told t c =
    let s = view c.args.schema.now in
    let i = c.args.id.0 in
    let items = c.args.items.now in
    let index = c.loop-index.index in
    let place = place_view c.args.place.now.items in
    let step : Step = record { id = c.args.id; position = Some (index + 1) } in
    let here : place_view (c.loop-index.place.items ++ step ∷ []) ≡ place ++ step_at i (index + 1) ∷ [] =
    map_push step_view c.loop-index.place.items step ∙ ap (λ steps. place_view steps ++ step_view step ∷ []) c.loop-index.invariant.0 in
    let whole : List Visit → Option Refusal = λ others. told_within c.args.room (visits_at s i (λ n below. item_visits s n below place 1 (json.items_view items)) ++ others) in
    front_wrong c.loop-index.left _ _ _ whole c.in-Err.fault
    (item_first s i place (place_view (c.loop-index.place.items ++ step ∷ [])) items index c.index-items-index.result (omega arith) c.index-items-index.is here)
    c.in-Err.ensures.told c.loop-index.invariant.1

pub visit_items-returns-clause-told : goal.visit_items-returns-clause-told
visit_items-returns-clause-told t c =
    let s = view c.args.schema.now in
    let i = c.args.id.0 in
    let place = place_view c.args.place.now.items in
    let whole : List Visit → Option Refusal = λ others. told_within c.args.room (visits_at s i (λ n below. item_visits s n below place 1 (json.items_view c.args.items.now)) ++ others) in
    none_left c.loop-index.left _ whole (no_item s i (c.loop-index.index + 1) place c.args.items.now c.loop-index.index (omega arith)) c.loop-index.invariant.1

-- ---- one instance

pub visit_instance-returns-in-Ok-clause-told : goal.visit_instance-returns-in-Ok-clause-told
visit_instance-returns-in-Ok-clause-told t c =
    let s = view c.args.schema.now in
    let i = c.args.id.0 in
    let n = node_view i c.in-Some.node.now in
    let place = place_view c.args.place.now.items in
    let d = json.view c.args.value.now in
    let ms = json.members_view c.in-Object.members.entries in
    let at : node_at s i ≡ Some n = sym c.kind.ensures ∙ ap (option_map (λ m. node_view i m.now)) c.in-Some.is in
    let of_module = ap (λ m. member_visits s m (children_of s i) place ms) (sym (ap (option_map (λ m. m.module_number)) at)) in
    walks_same c.args.room _ _ c.visit_members.result
    (object_inside s i n place d ms at (ap json.view c.in-Object.is ∙ view-Object c.in-Object.members) (sym c.has_value.ensures ∙ c.if-has_value.false)
    ∙ ap (λ vs. right place ∷ vs) of_module)
    (walks_then c.args.room c.in-Ok.left place (member_visits s (module_at s (Some i)) (children_of s i) place ms) c.visit_members.result (c.in-Ok.ensures place) c.visit_members.ensures.told)

pub visit_instance-returns-in-Err-clause-told : goal.visit_instance-returns-in-Err-clause-told
visit_instance-returns-in-Err-clause-told t c =
    let s = view c.args.schema.now in
    let i = c.args.id.0 in
    let n = node_view i c.in-Some.node.now in
    let place = place_view c.args.place.now.items in
    let d = json.view c.args.value.now in
    let ms = json.members_view c.in-Object.members.entries in
    let at : node_at s i ≡ Some n = sym c.kind.ensures ∙ ap (option_map (λ m. node_view i m.now)) c.in-Some.is in
    walks_same c.args.room _ _ (Err c.in-Err.fault)
    (object_inside s i n place d ms at (ap json.view c.in-Object.is ∙ view-Object c.in-Object.members) (sym c.has_value.ensures ∙ c.if-has_value.false))
    (walks_stop c.args.room place (member_visits s (Some n.module_number) (children_of s i) place ms) c.in-Err.fault (c.in-Err.ensures place))

pub visit_instance-returns-in_default-value : goal.visit_instance-returns-in_default-value
visit_instance-returns-in_default-value t c =
    let s = view c.args.schema.now in
    let i = c.args.id.0 in
    let n = node_view i c.in-Some.node.now in
    let place = place_view c.args.place.now.items in
    let at : node_at s i ≡ Some n = sym c.kind.ensures ∙ ap (option_map (λ m. node_view i m.now)) c.in-Some.is in
    record {
      told = walks_wrong c.args.room _ 5 (place_view c.deref-in_default-value.result.now) c.refused.result
          (other_at s i n place c.args.value.now at (sym c.has_value.ensures ∙ c.if-has_value.false) c.in_default-value.not-Object
          ∙ ap (λ steps. wrong 5 (place_view steps) ∷ []) (sym c.deref-in_default-value.ensures.value)) c.refused.ensures;
      place = tt;
    }

-- ---- a leaf or an item

pub visit_instance-returns-then-has_value : goal.visit_instance-returns-then-has_value
visit_instance-returns-then-has_value t c =
    let s = view c.args.schema.now in
    let i = c.args.id.0 in
    let n = node_view i c.in-Some.node.now in
    let place = place_view c.args.place.now.items in
    let d = json.view c.args.value.now in
    let at : node_at s i ≡ Some n = sym c.kind.ensures ∙ ap (option_map (λ m. node_view i m.now)) c.in-Some.is in
    record {
      told = walks_same c.args.room _ _ c.visit_leaf.result
          (leaf_at s i n place d at (sym c.has_value.ensures ∙ c.if-has_value.true)
          ∙ (ap (λ form. leaf_visit form place d) (sym c.form.ensures) ∙ ap (λ p. leaf_visit (form_view c.form.result) (place_view p) d) (sym c.deref.ensures.value)))
          c.visit_leaf.ensures;
      place = as_before c.visit_leaf.result _;
    }

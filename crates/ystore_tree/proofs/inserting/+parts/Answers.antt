use Rattle.std.proofs.Common.{arith, rules, ap, sym, ◌≡◌, ◌∙◌, length, option_map, subst}
use Rattle.yspec.specs.Forest.{end, node, join}
use Rattle.yspec.specs.document.Document.{Stored, Tree}
use Rattle.yschema_model.specs.View as schema_view
use Rattle.ytype.specs.View.{raw_of}
use Rattle.yinst_tree.specs.View.{row_view, view}
use Rattle.ystore_rows.specs.Rows.{added}
use Rattle.ystore_rows.specs.declared.row.Row.TheVariants.{Below}
use Rattle.ystore.specs.Held.{Label, told_of}
use Rattle.ystore.specs.Views.{store_of}
use Rattle.ystore_tree.specs.Growing.{Inserts, has_room_for}
use Rattle.ystore_tree.proofs.FreshLemmas.{fresh_first, fresh_children, fresh_on, fresh_stays, fresh_itself}
use Rattle.ystore_tree.proofs.GrowLemmas.{first_inserted, first_room, one_more, room_left, room_for_one, root_held, grows_on}
use Rattle.ystore_tree.proofs.OpenLemmas.{taken_stored, all_taken}
use Rattle.ystore_tree.proofs.inserting.+parts.Goals as goal

pub loop-child-init : goal.loop-child-init
loop-child-init t c =
    let of = c.into_parts-value.result.0 in
    let label : Label = record { schema = of; value = option_map raw_of c.into_parts-value.result.1; parent = c.args.above } in
    let below = c.into_parts-value.result.2 in
    let seen = c.into_parts-value.ensures.label in
    let same : c.into_iter-child-iterator.result.rest.items ≡ below.items = search rules in
    let fits : c.len.result ≡ length below.items = c.len.ensures ∙ below.ok.0 in
    record {
      same_reference = c.in_ok-id.ensures.same_reference;
      fresh = fresh_first (schema_view.view c.args.schema.now) c.in_ok-id.id label (told_of c.in_ok-told.told) c.flag_count.result c.len.result
          (store_of c.args.counted.now) (store_of c.insert.new.self) c.in_ok-told.ensures.told c.flag_count.ensures c.in_ok-told.ensures.few c.in_ok-id.ensures.ok;
      room = subst (λ rows. has_room_for (length rows) (store_of c.insert.new.self) (Below c.in_ok-id.id)) (sym same)
          (first_room (store_of c.insert.new.self) c.in_ok-id.id label (told_of c.in_ok-told.told) 0 c.len.result (length below.items) c.in_ok-id.ensures.ok.changed (omega (arith, fits)));
      made = (
        end,
        ap row_view same ∙ c.into_parts-value.ensures.below,
        first_inserted c.args.above c.in_ok-id.id label (view c.args.stored).0 (told_of c.in_ok-told.told) 0 c.len.result
            (store_of c.args.counted.now) (store_of c.insert.new.self) c.args.numbers.now.items c.push.new.self.items
            (ap (λ (s : Stored). let r : Label = record { schema = of; value = s.value; parent = c.args.above } in r) (sym seen))
            (ap (λ (s : Stored). s.schema_number) (sym seen)) c.in_ok-id.ensures.vacant c.in_ok-id.ensures.ok c.in_ok-push.ensures.items,
      );
    }

pub returns-in_err-node-clause-grows : goal.returns-in_err-node-clause-grows
returns-in_err-node-clause-grows t c =
    grows_on (store_of c.args.counted.now) (store_of c.loop-child.counted) (store_of c.insert_part.new.counted) c.loop-child.invariant.made.2.grows c.in_err-node.ensures.grows

pub returns-in_err-node-clause-same_reference : goal.returns-in_err-node-clause-same_reference
returns-in_err-node-clause-same_reference t c = c.in_err-node.ensures.same_reference ∙ c.loop-child.invariant.same_reference

pub loop-child-preserved : goal.loop-child-preserved
loop-child-preserved t c =
    let made = c.loop-child.invariant.made in
    let child = c.in_ok-node.ensures.ok in
    let s = c.in-Some.child in
    let rows = c.loop-child.child-iterator.rest.items in
    let rest = c.next.new.self.rest.items in
    let is = c.in-Some.ensures.steps.0 in
    record {
      same_reference = c.add_child.ensures.same_reference ∙ (c.in_ok-node.ensures.same_reference ∙ c.loop-child.invariant.same_reference);
      room = room_left c.in_ok-id.id c.id-number.result c.in_ok-node.node (store_of c.loop-child.counted) (store_of c.insert_part.new.counted) (store_of c.add_child.new.self)
          (root_held c.args.above c.in_ok-id.id (view c.args.stored).0 made.0 (store_of c.args.counted.now) (store_of c.loop-child.counted) (store_of c.insert_part.new.counted)
          c.args.numbers.now.items c.loop-child.numbers.items made.2 child.grows) c.add_child.ensures.store
          (length rows) (length rest) (ap length is) c.loop-child.invariant.room;
      fresh = fresh_children (schema_view.view c.args.schema.now) (Below c.in_ok-id.id) (added (c.id-number.result, c.in_ok-node.node))
          (store_of c.args.counted.now) (store_of c.insert_part.new.counted) (store_of c.add_child.new.self) c.add_child.ensures.store
          (fresh_on (schema_view.view c.args.schema.now) (store_of c.args.counted.now) (store_of c.loop-child.counted) (store_of c.insert_part.new.counted)
          child.grows c.in_ok-node.ensures.fresh c.loop-child.invariant.fresh);
      made = (
        join made.0 (node (view s).0 (view s).1 end),
        taken_stored rows rest s made.0 (view c.args.stored).1 is made.1,
        one_more c.args.above c.in_ok-id.id (view c.args.stored).0 made.0 (store_of c.args.counted.now) (store_of c.loop-child.counted) (store_of c.insert_part.new.counted) (store_of c.add_child.new.self)
            c.args.numbers.now.items c.loop-child.numbers.items c.insert_part.new.numbers.items made.2 c.in_ok-node.node c.id-number.result (view s).0 (view s).1 child c.id-number.ensures c.add_child.ensures.store,
      );
    }

pub add_child-requires : goal.add_child-requires
add_child-requires t c =
    let made = c.loop-child.invariant.made in
    let child = c.in_ok-node.ensures.ok in
    let rows = c.loop-child.child-iterator.rest.items in
    let rest = c.next.new.self.rest.items in
    room_for_one c.in_ok-id.id (store_of c.loop-child.counted) (store_of c.insert_part.new.counted) (length rows) (length rest)
    (root_held c.args.above c.in_ok-id.id (view c.args.stored).0 made.0 (store_of c.args.counted.now) (store_of c.loop-child.counted) (store_of c.insert_part.new.counted)
    c.args.numbers.now.items c.loop-child.numbers.items made.2 child.grows)
    (ap length c.in-Some.ensures.steps.0) c.loop-child.invariant.room

pub returns-clause-ok : goal.returns-clause-ok
returns-clause-ok t c =
    let made = c.loop-child.invariant.made in
    subst (λ (t : Tree). Inserts c.args.above c.in_ok-id.id (view c.args.stored).0 t (store_of c.args.counted.now) (store_of c.loop-child.counted) c.args.numbers.now.items c.loop-child.numbers.items)
    (all_taken c.loop-child.child-iterator.rest.items _ made.0 (view c.args.stored).1 c.in-None.ensures.steps.0 c.loop-child.child-iterator.rest.ok.0 made.1) made.2

pub returns-clause-grows : goal.returns-clause-grows
returns-clause-grows t c = c.loop-child.invariant.made.2.grows

pub returns-in_err-id-clause-fresh : goal.returns-in_err-id-clause-fresh
returns-in_err-id-clause-fresh t c =
    fresh_stays (schema_view.view c.args.schema.now) (store_of c.args.counted.now) (store_of c.args.counted.now) (store_of c.insert.new.self) c.in_err-id.ensures.err
    (fresh_itself (schema_view.view c.args.schema.now) (store_of c.args.counted.now))

pub returns-in_err-push-clause-fresh : goal.returns-in_err-push-clause-fresh
returns-in_err-push-clause-fresh t c =
    let label : Label = record { schema = c.into_parts-value.result.0; value = option_map raw_of c.into_parts-value.result.1; parent = c.args.above } in
    fresh_first (schema_view.view c.args.schema.now) c.in_ok-id.id label (told_of c.in_ok-told.told) c.flag_count.result c.len.result
    (store_of c.args.counted.now) (store_of c.insert.new.self) c.in_ok-told.ensures.told c.flag_count.ensures c.in_ok-told.ensures.few c.in_ok-id.ensures.ok

pub returns-clause-fresh : goal.returns-clause-fresh
returns-clause-fresh t c = c.loop-child.invariant.fresh

pub returns-in_err-node-clause-fresh : goal.returns-in_err-node-clause-fresh
returns-in_err-node-clause-fresh t c =
    fresh_on (schema_view.view c.args.schema.now) (store_of c.args.counted.now) (store_of c.loop-child.counted) (store_of c.insert_part.new.counted)
    c.in_err-node.ensures.grows c.in_err-node.ensures.fresh c.loop-child.invariant.fresh

pub returns-clause-same_reference : goal.returns-clause-same_reference
returns-clause-same_reference t c = c.loop-child.invariant.same_reference

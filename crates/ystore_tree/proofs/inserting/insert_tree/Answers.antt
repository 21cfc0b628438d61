use Rattle.std.proofs.Common.{arith, ap, sym, ◌≡◌, ◌∙◌, ◌+◌, drop}
use Rattle.yspec.specs.Forest.{end, node, join}
use Rattle.yinst_tree.specs.View.{Labelled, view, tree_view, row_view}
use Rattle.yschema_model.specs.View as schema_view
use Rattle.ystore_rows.specs.Rows as rows
use Rattle.ystore.specs.Views.{store_of}
use Rattle.ystore_rows.specs.declared.row.Row.TheVariants.{Top}
use Rattle.ystore_tree.specs.Hanging.{tree_of}
use Rattle.ystore_tree.proofs.FreshLemmas.{fresh_children, fresh_room, fresh_on, fresh_stays}
use Rattle.ystore_tree.proofs.OpenLemmas.{top_more, next_stored, all_stored, tree_more}
use Rattle.ystore_tree.proofs.inserting.insert_tree.Goals as goal

pub loop-stored-preserved : goal.loop-stored-preserved
loop-stored-preserved c = (
  c.add_child.ensures.same_reference ∙ (c.in_ok-reserve_child.ensures.same_reference ∙ (c.in_ok-id.ensures.same_reference ∙ c.loop-stored.invariant.0)),
  fresh_children (schema_view.view c.args.schema.now) Top (rows.added (c.id.result, c.in_ok-id.id)) (store_of c.args.counted.now) (store_of c.reserve_child.new.self) (store_of c.add_child.new.self)
      c.add_child.ensures.store
      (fresh_room (schema_view.view c.args.schema.now) Top c.in_ok-reserve_child.ensures.ok.room (store_of c.args.counted.now) (store_of c.insert_part.new.counted) (store_of c.reserve_child.new.self)
      c.in_ok-reserve_child.ensures.ok.changed
      (fresh_on (schema_view.view c.args.schema.now) (store_of c.args.counted.now) (store_of c.loop-stored.counted) (store_of c.insert_part.new.counted)
      c.in_ok-id.ensures.grows c.in_ok-id.ensures.fresh c.loop-stored.invariant.1)),
  λ before keeps.
      let so = c.loop-stored.invariant.2 before keeps in
      let made = c.in_ok-id.ensures.ok in
      let s = c.stored-item.result in
      let same : view c.in_ok-part.part ≡ view s = c.in_ok-part.ensures in
      let rows = c.roots-stored-items.result.now in
      let i = c.loop-stored.stored-index in (
        join so.0 (node made.root made.branches end),
        ap (λ t. join t (row_view (drop (i + 1) rows))) (tree_more so.0 made.root made.branches (view s).0 (view s).1 (made.is_label ∙ ap (λ (v : Labelled). v.0) same) (made.is_below ∙ ap (λ (v : Labelled). v.1) same))
            ∙ next_stored rows i s (tree_of so.0) (tree_view c.args.tree.now) (omega arith) c.stored-item.is so.1,
        top_more before so.0 (store_of c.loop-stored.counted) (store_of c.insert_part.new.counted) (store_of c.reserve_child.new.self) (store_of c.add_child.new.self)
            c.in_ok-id.id c.id.result (view c.in_ok-part.part).0 (view c.in_ok-part.part).1 _ _ made so.2 c.in_ok-reserve_child.ensures.ok (c.id.ensures ∙ ap (λ (v : Labelled). v.0.schema_number) (sym same)) c.add_child.ensures.store,
      ),
)

pub returns-clause-trees : goal.returns-clause-trees
returns-clause-trees c before keeps =
    let so = c.loop-stored.invariant.2 before keeps in
    record {
      branches = so.0;
      is_tree = all_stored c.roots-stored-items.result.now c.loop-stored.stored-index (tree_of so.0) (tree_view c.args.tree.now) (omega arith) so.1;
      keeps = so.2;
    }

pub returns-in_err-id-clause-fresh : goal.returns-in_err-id-clause-fresh
returns-in_err-id-clause-fresh c =
    fresh_on (schema_view.view c.args.schema.now) (store_of c.args.counted.now) (store_of c.loop-stored.counted) (store_of c.insert_part.new.counted)
    c.in_err-id.ensures.grows c.in_err-id.ensures.fresh c.loop-stored.invariant.1

pub returns-in_err-reserve_child-clause-fresh : goal.returns-in_err-reserve_child-clause-fresh
returns-in_err-reserve_child-clause-fresh c =
    fresh_stays (schema_view.view c.args.schema.now) (store_of c.args.counted.now) (store_of c.insert_part.new.counted) (store_of c.reserve_child.new.self) c.in_err-reserve_child.ensures.err
    (fresh_on (schema_view.view c.args.schema.now) (store_of c.args.counted.now) (store_of c.loop-stored.counted) (store_of c.insert_part.new.counted)
    c.in_ok-id.ensures.grows c.in_ok-id.ensures.fresh c.loop-stored.invariant.1)

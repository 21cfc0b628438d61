use Rattle.std.proofs.Common.{arith, ap, refl, rules, sym, subst, ◌∙◌, [], ◌≡◌}
use Rattle.yspec.specs.Forest.{end, join, node}
use Rattle.yspec.specs.document.Sorting.{IsSorted}
use Rattle.yschema_model.specs.View as schema_view
use Rattle.yinst_tree.specs.View.{row_view, view}
use Rattle.ystore_tree.specs.Hanging.{tree_of}
use Rattle.ystore.specs.Views.{store_of}
use Rattle.ylive_edit.specs.Places.{Carries, branch_of}
use Rattle.ystore_tree.proofs.OpenLemmas.{all_taken, taken_stored}
use Rattle.ylive_edit.proofs.OpeningLemmas as lemma
use Rattle.ylive_edit.proofs.opening.+hanging.Goals as goal

pub hang_node-hang_whole-requires-2 : goal.hang_node-hang_whole-requires-2
hang_node-hang_whole-requires-2 t c =
    lemma.bare_behind (schema_view.view c.args.schema.now) (store_of c.args.counted.now) c.args.above (branch_of c.args.stored) (branch_of c.new-bare.result)
    (c.new-bare.ensures.node ∙ sym c.into_parts-value.ensures.label) (c.new-bare.ensures.below ∙ ap row_view c.new.ensures.items) c.requires

pub hang_node-hang_row-requires : goal.hang_node-hang_row-requires
hang_node-hang_row-requires t c =
    let s = (schema_view.view c.args.schema.now) in
    let r = c.requires in
    let l = (view c.args.stored).0 in
    let mid = store_of c.hang_whole-2.new.counted in
    let read = store_of c.last_child.new.counted in
    let label : (view c.new-bare.result).0 ≡ l = c.new-bare.ensures.node ∙ sym c.into_parts-value.ensures.label in
    let none : (view c.new-bare.result).1 ≡ end = c.new-bare.ensures.below ∙ ap row_view c.new.ensures.items in
    let bare = lemma.bare_behind s (store_of c.args.counted.now) c.args.above (branch_of c.args.stored) (branch_of c.new-bare.result) label none r in
    let carried = lemma.bare_carried s mid r.at.way (tree_of r.f) l (branch_of c.new-bare.result) label none (c.in_ok-hang_whole.ensures.hung r.tree r.steps r.f r.at bare.sorted) in (
      omega (arith, c.decreases, c.if-levels-eq0.false),
      (
        (
          _,
          _,
          lemma.below_at s (store_of c.args.counted.now) mid read r.tree r.steps c.args.above r.f r.at l (view c.args.stored).1 r.sorted carried c.last_child.ensures.kept c.in-Some.node
              (sym c.in-Some.is ∙ c.last_child.ensures.child),
        ),
        subst IsSorted (sym c.into_parts-value.ensures.below) (lemma.sorted_below (tree_of r.f) l (view c.args.stored).1 end r.sorted),
      ),
    )

pub hang_node-returns-in-Some-clause-hung : goal.hang_node-returns-in-Some-clause-hung
hang_node-returns-in-Some-clause-hung t c = λ tree steps f at sorted.
    let s = (schema_view.view c.args.schema.now) in
    let old = store_of c.args.counted.now in
    let l = (view c.args.stored).0 in
    let b = (view c.args.stored).1 in
    let mid = store_of c.hang_whole-2.new.counted in
    let read = store_of c.last_child.new.counted in
    let new = store_of c.hang_row.new.counted in
    let label : (view c.new-bare.result).0 ≡ l = c.new-bare.ensures.node ∙ sym c.into_parts-value.ensures.label in
    let none : (view c.new-bare.result).1 ≡ end = c.new-bare.ensures.below ∙ ap row_view c.new.ensures.items in
    let bare = lemma.bare_sorted (tree_of f) l b (branch_of c.new-bare.result) label none sorted in
    let carried = lemma.bare_carried s mid at.way (tree_of f) l (branch_of c.new-bare.result) label none (c.in_ok-hang_whole.ensures.hung tree steps f at bare) in
    let is = sym c.in-Some.is ∙ c.last_child.ensures.child in
    let only = c.last_child.ensures.kept in
    lemma.ok_then c.hang_row.result
    (λ so. lemma.carried_up s old mid read tree steps c.args.above f at l b sorted carried only c.in-Some.node is new b
    (subst (Carries s new (lemma.way_down s old mid read tree steps c.args.above f at l b sorted carried only c.in-Some.node is)) c.into_parts-value.ensures.below so))
    (c.hang_row.ensures.hung _ _ (lemma.below_at s old mid read tree steps c.args.above f at l b sorted carried only c.in-Some.node is))

pub hang_row-loop-stored-init : goal.hang_row-loop-stored-init
hang_row-loop-stored-init t c =
    (refl, end, search rules, λ tree steps at. lemma.carries_nothing (schema_view.view c.args.schema.now) (store_of c.args.counted.now) tree steps c.args.above at)

pub hang_row-hang_node-requires : goal.hang_row-hang_node-requires
hang_row-hang_node-requires t c =
    let s = (schema_view.view c.args.schema.now) in
    let so = c.loop-stored.invariant in
    let here = c.requires.at in
    let part = c.in-Some.stored in
    let rows = c.loop-stored.stored-iterator.rest.items in
    let rest = c.next.new.self.rest.items in
    let is = c.in-Some.ensures.steps.0 in (
      omega (arith, c.decreases),
      lemma.behind s (store_of c.args.counted.now) (store_of c.loop-stored.counted) here.0 here.1 c.args.above end so.1 (branch_of part) here.2 (so.3 here.0 here.1 here.2)
          (lemma.so_far_sorted rows part rest so.1 _ is so.2 c.requires.sorted) (lemma.next_sorted rows part rest so.1 _ is so.2 c.requires.sorted),
    )

pub hang_row-loop-stored-preserved : goal.hang_row-loop-stored-preserved
hang_row-loop-stored-preserved t c =
    let s = (schema_view.view c.args.schema.now) in
    let so = c.loop-stored.invariant in
    let part = c.in-Some.stored in
    let rows = c.loop-stored.stored-iterator.rest.items in
    let rest = c.next.new.self.rest.items in
    let is = c.in-Some.ensures.steps.0 in
    let sorted = lemma.so_far_sorted rows part rest so.1 _ is so.2 c.requires.sorted in
    let next = lemma.next_sorted rows part rest so.1 _ is so.2 c.requires.sorted in (
      c.in_ok-hang_node.ensures.same_reference ∙ so.0,
      join so.1 (node (view part).0 (view part).1 end),
      taken_stored rows rest part so.1 _ is so.2,
      λ tree steps at. lemma.further s (store_of c.args.counted.now) (store_of c.loop-stored.counted) (store_of c.hang_node.new.counted) tree steps c.args.above end so.1 (branch_of part) at
          (so.3 tree steps at) sorted next c.in_ok-hang_node.ensures.hung,
    )

pub hang_row-returns : goal.hang_row-returns
hang_row-returns t c =
    let so = c.loop-stored.invariant in
    record {
      hung = λ tree steps at. subst (Carries (schema_view.view c.args.schema.now) (store_of c.loop-stored.counted) at.way)
          (all_taken c.loop-stored.stored-iterator.rest.items _ so.1 (row_view c.args.row.items) c.in-None.ensures.steps.0 c.loop-stored.stored-iterator.rest.ok.0 so.2) (so.3 tree steps at);
      same_reference = so.0;
    }

use Rattle.std.proofs.Common.{rules, subst, sym, []}
use Rattle.yspec.specs.Forest.{end}
use Rattle.yspec.specs.document.Sorting.{IsSorted}
use Rattle.yinst_tree.specs.View.{tree_view}
use Rattle.yschema_model.specs.View as schema_view
use Rattle.ystore.specs.Views.{store_of}
use Rattle.ylive_edit.specs.Places.{Carries, HoldsTold}
use Rattle.ylive_edit.proofs.OpeningLemmas.{at_nothing, holds_row, still_empty}
use Rattle.ylive_edit.proofs.opening.told_store.Goals as goal

pub hang_row-requires-clause-at : goal.hang_row-requires-clause-at
hang_row-requires-clause-at c =
    let empty = still_empty c.new-nodes.result (store_of c.counted-counted.result) (store_of c.reserve_nodes.new.self)
    (record { top = c.new-nodes.ensures.top; none_below = c.new-nodes.ensures.nodes; index = c.new-nodes.ensures.index; count = c.new-nodes.ensures.count })
    c.counted-counted.ensures.store c.in_ok-reserve_nodes.ensures.store in
    (end, [], at_nothing (schema_view.view c.args.schema.now) (store_of c.begin.new.counted) (c.in_ok-begin.ensures.keeps empty) (c.in_ok-begin.ensures.told empty))

pub hang_row-requires-clause-sorted : goal.hang_row-requires-clause-sorted
hang_row-requires-clause-sorted c = subst IsSorted (sym c.into_roots.ensures) c.requires

pub returns : goal.returns
returns c =
    let s = schema_view.view c.args.schema.now in
    let empty = still_empty c.new-nodes.result (store_of c.counted-counted.result) (store_of c.reserve_nodes.new.self)
    (record { top = c.new-nodes.ensures.top; none_below = c.new-nodes.ensures.nodes; index = c.new-nodes.ensures.index; count = c.new-nodes.ensures.count })
    c.counted-counted.ensures.store c.in_ok-reserve_nodes.ensures.store in
    let at = at_nothing s (store_of c.begin.new.counted) (c.in_ok-begin.ensures.keeps empty) (c.in_ok-begin.ensures.told empty) in
    subst (λ n. HoldsTold s n (tree_view c.args.tree)) (search rules)
    (holds_row s (store_of c.hang_row.new.counted) (tree_view c.args.tree)
    (subst (Carries s (store_of c.hang_row.new.counted) []) c.into_roots.ensures (c.in_ok-hang_row.ensures.hung end [] at)))

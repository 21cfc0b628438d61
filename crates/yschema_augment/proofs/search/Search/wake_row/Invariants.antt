use Rattle.std.proofs.Common.{◌≡◌, ◌++◌}
use Rattle.std.specs.List.{flat_map}
use Rattle.yspec.specs.Forest.{row}
use Rattle.ybase_preorder.specs.View.{row_by}
use Rattle.yschema_expand.specs.NumberedView.{with_number}
use Rattle.yschema_augment.specs.SearchView.{woken_by}
use Rattle.yschema_augment.proofs.search.Search.wake_row.Given as goal

-- those so far with those of the nodes that are left
abbrev pub invariant-loop-node : goal.invariant-loop-node
invariant-loop-node l = record {
  more : (goal.iterator-loop-node).can_next l.node-iterator;
  ends : (goal.iterator-loop-node).is_finite l.node-iterator;
  so_far : l.woken.items ++ flat_map (woken_by l.self l.target) (row (row_by with_number l.node-iterator))
      ≡ l.fn.woken.items ++ flat_map (woken_by l.self l.target) (row (row_by with_number l.fn.row));
}

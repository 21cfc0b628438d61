use Rattle.std.proofs.Common.{◌≡◌, ◌++◌}
use Rattle.std.specs.List.{flat_map}
use Rattle.yspec.specs.Forest.{row}
use Rattle.ybase_preorder.specs.View.{row_by}
use Rattle.yschema_expand.specs.NumberedView.{with_number}
use Rattle.yschema_augment.specs.Hanging.{inner}
use Rattle.yschema_augment.specs.SearchView.{woken_by}
use Rattle.yschema_augment.proofs.search.Search.wake_body.Given as goal

-- those so far with those of the cases that are left
abbrev pub invariant-loop-case : goal.invariant-loop-case
invariant-loop-case l = record {
  more : (goal.iterator-loop-case).can_next l.case-iterator;
  ends : (goal.iterator-loop-case).is_finite l.case-iterator;
  so_far : l.woken.items ++ flat_map (woken_by l.self l.target) (row (inner (row_by with_number l.case-iterator)))
      ≡ flat_map (woken_by l.self l.target) (row (inner (row_by with_number l.body)));
}

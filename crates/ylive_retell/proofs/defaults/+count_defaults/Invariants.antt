use Rattle.std.proofs.Common.{◌≡◌, ◌+◌, ◌≤◌}
use Rattle.yspec.specs.Forest.{size, weigh}
use Rattle.yschema_model.specs.View.{row_view}
use Rattle.ylive_retell.specs.Few.{own_defaults}
use Rattle.ylive_retell.proofs.defaults.+count_defaults.Given as goal

abbrev pub decreases-count_defaults : goal.decreases-count_defaults
decreases-count_defaults l = size (row_view l.children)

-- those of the nodes that are left make up the whole
abbrev pub invariant-loop-child : goal.invariant-loop-child
invariant-loop-child l =
    record {
      more : (goal.iterator-loop-child).can_next l.child-iterator;
      ends : (goal.iterator-loop-child).is_finite l.child-iterator;
      smaller : size (row_view l.child-iterator) ≤ size (row_view l.fn.children);
      counted : l.count + weigh own_defaults (row_view l.child-iterator) ≡ l.fn.more + weigh own_defaults (row_view l.fn.children);
    }

use Rattle.std.proofs.Common.{◌≡◌, ◌≤◌, ◌||◌, ℕ}
use Rattle.yspec.specs.Forest.{size}
use Rattle.yspec.specs.types.Types.{Val}
use Rattle.yschema_model.specs.View.{row_view}
use Rattle.ycheck.specs.Targets.{is_kept, holds, is_target_in}
use Rattle.ycheck.proofs.targets.+keep_targets.Given as goal

-- what stands below a schema node is smaller than its row
abbrev pub decreases-keep_targets : goal.decreases-keep_targets
decreases-keep_targets l = size (row_view l.children)

-- those so far with those of the nodes that are left
abbrev pub invariant-loop-child : goal.invariant-loop-child
invariant-loop-child l = record {
  more : (goal.iterator-loop-child).can_next l.child-iterator;
  ends : (goal.iterator-loop-child).is_finite l.child-iterator;
  smaller : size (row_view l.child-iterator) ≤ size (row_view l.fn.children);
  kept : (number : ℕ) → (is_kept l.targets number || is_target_in (row_view l.child-iterator) number) ≡ (is_kept l.fn.targets number || is_target_in (row_view l.fn.children) number);
  held : (number : ℕ) (v : Val) → holds l.targets number v ≡ holds l.fn.targets number v;
}

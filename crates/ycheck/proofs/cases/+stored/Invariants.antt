use Rattle.std.proofs.Common.{◌+◌, ◌*◌, ◌≤◌}
use Rattle.yspec.specs.Forest.{size}
use Rattle.yschema_model.specs.View.{row_view, below_of}
use Rattle.yinst_tree.specs.View as document_view
use Rattle.ycheck.proofs.CaseLemmas.{NoneYet}
use Rattle.ycheck.proofs.cases.+stored.Given as goal

-- what stands below a schema node is smaller than its row
abbrev pub decreases-has_stored : goal.decreases-has_stored
decreases-has_stored l = 2 * size (row_view l.children)

abbrev pub decreases-is_met : goal.decreases-is_met
decreases-is_met l = 2 * size (below_of l.child) + 1

-- none of the nodes so far
abbrev pub invariant-has_stored-loop-child : goal.invariant-has_stored-loop-child
invariant-has_stored-loop-child l = record {
  more : (goal.iterator-has_stored-loop-child).can_next l.child-iterator;
  ends : (goal.iterator-has_stored-loop-child).is_finite l.child-iterator;
  smaller : size (row_view l.child-iterator) ≤ size (row_view l.fn.children);
  none : NoneYet (document_view.row_view l.rest) (row_view l.child-iterator) (row_view l.fn.children);
}

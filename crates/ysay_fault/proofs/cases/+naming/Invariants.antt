use Rattle.std.proofs.Common.{◌≡◌, ◌+◌, ◌*◌, ◌≤◌}
use Rattle.yspec.specs.Forest.{size}
use Rattle.yspec.specs.document.Document.{instances_in}
use Rattle.yspec.specs.document.Sorting.{IsSorted}
use Rattle.yschema_model.specs.View.{row_view, below_of}
use Rattle.yinst_tree.specs.View as document_view
use Rattle.ysay_fault.specs.Cases.{conflicting_cases}
use Rattle.ysay_fault.proofs.cases.+naming.Given as goal

-- what stands below a schema node is smaller than its row
abbrev pub decreases-conflicting_cases : goal.decreases-conflicting_cases
decreases-conflicting_cases l = 2 * size (row_view l.children)

abbrev pub decreases-conflicting_at : goal.decreases-conflicting_at
decreases-conflicting_at l = 2 * size (below_of l.child) + 1

abbrev pub invariant-conflicting_cases-loop-child : goal.invariant-conflicting_cases-loop-child
invariant-conflicting_cases-loop-child l =
    record {
      more : (goal.iterator-conflicting_cases-loop-child).can_next l.child-iterator;
      ends : (goal.iterator-conflicting_cases-loop-child).is_finite l.child-iterator;
      smaller : size (row_view l.child-iterator) ≤ size (row_view l.fn.children);
      found : IsSorted (document_view.row_view l.row) → conflicting_cases (instances_in (document_view.row_view l.row)) l.name (row_view l.child-iterator)
          ≡ conflicting_cases (instances_in (document_view.row_view l.row)) l.name (row_view l.fn.children);
    }

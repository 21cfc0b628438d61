use Rattle.std.proofs.Common.{◌≤◌, ◌+◌, ◌*◌, List, ℕ}
use Rattle.yspec.specs.Forest.{size}
use Rattle.yspec.specs.document.Document.{instances_in}
use Rattle.yspec.specs.document.Sorting.{IsSorted}
use Rattle.yschema_model.specs.View.{row_view, below_of}
use Rattle.yinst_tree.specs.View as document_view
use Rattle.ycheck.specs.Cases.{Chooses}
use Rattle.ycheck.specs.Targets.{times_used}
use Rattle.ycheck.proofs.TargetLemmas.{UsesLeft}
use Rattle.ycheck.proofs.targets.+in_use.Given as goal

-- what stands below a schema node is smaller than its row
abbrev pub decreases-add_in_use : goal.decreases-add_in_use
decreases-add_in_use l = 3 * size (row_view l.children)

abbrev pub decreases-add_child : goal.decreases-add_child
decreases-add_child l = 3 * size (below_of l.child) + 2

abbrev pub decreases-add_absent : goal.decreases-add_absent
decreases-add_absent l = 3 * size (below_of l.child) + 1

-- what is added with what is in use of the nodes that are left
abbrev pub invariant-add_in_use-loop-child : goal.invariant-add_in_use-loop-child
invariant-add_in_use-loop-child l =
    let t = document_view.row_view l.fn.rest in
    let f = row_view l.fn.children in
    record {
      more : (goal.iterator-add_in_use-loop-child).can_next l.child-iterator;
      ends : (goal.iterator-add_in_use-loop-child).is_finite l.child-iterator;
      smaller : size (row_view l.child-iterator) ≤ size f;
      uses : (numbers : List ℕ) → IsSorted t → Chooses l.chosen (instances_in t) numbers f
          → UsesLeft l.chosen numbers l.fn.targets l.targets (times_used (instances_in t) numbers f) (document_view.row_view l.rest) (row_view l.child-iterator);
    }

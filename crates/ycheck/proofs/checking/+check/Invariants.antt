use Rattle.std.proofs.Common.{◌+◌, ◌*◌, ◌≤◌, List, drop}
use Rattle.yspec.specs.Forest.{size}
use Rattle.yspec.specs.schema.Schema.{is_many}
use Rattle.yspec.specs.document.Document.{Tree}
use Rattle.yspec.specs.document.Fault.{Fault}
use Rattle.yspec.specs.document.Sorting.{IsSorted}
use Rattle.yschema_model.specs.View as schema_view
use Rattle.yinst_tree.specs.View.{row_view}
use Rattle.ycheck.specs.declared.cases.Chosen.TheVariants as variant
use Rattle.ycheck.specs.Walk.{times_of, each_told, each_of, instance_told, instances_told, walked}
use Rattle.ycheck.proofs.FoundLemmas.{Leaves}
use Rattle.ycheck.proofs.checking.+check.Given as goal

-- what stands below a schema node is smaller than its row
abbrev pub decreases-check_row : goal.decreases-check_row
decreases-check_row l = 6 * size (schema_view.row_view l.children)

abbrev pub decreases-check_child : goal.decreases-check_child
decreases-check_child l = 6 * size (schema_view.below_of l.child) + 5

abbrev pub decreases-check_inside : goal.decreases-check_inside
decreases-check_inside l = 6 * size (schema_view.below_of l.child) + 4

abbrev pub decreases-check_data : goal.decreases-check_data
decreases-check_data l = 6 * size (schema_view.below_of l.child) + 4

abbrev pub decreases-check_found : goal.decreases-check_found
decreases-check_found l = 6 * size (schema_view.below_of l.child) + 3

abbrev pub decreases-check_absent : goal.decreases-check_absent
decreases-check_absent l = 6 * size (schema_view.below_of l.child) + 3

-- with what is told of the schema nodes that are left, all is told
abbrev pub invariant-check_row-loop-child : goal.invariant-check_row-loop-child
invariant-check_row-loop-child l =
    let told = walked (times_of l.targets) (schema_view.view l.schema) l.fn.chosen in
    record {
      more : (goal.iterator-check_row-loop-child).can_next l.child-iterator;
      ends : (goal.iterator-check_row-loop-child).is_finite l.child-iterator;
      smaller : size (schema_view.row_view l.child-iterator) ≤ size (schema_view.row_view l.fn.children);
      sorted : IsSorted (row_view l.fn.row) → IsSorted (row_view l.rest);
      found : IsSorted (row_view l.fn.row) → Leaves l.fn.findings l.findings
          (told (schema_view.row_view l.child-iterator) (row_view l.rest)) (told (schema_view.row_view l.fn.children) (row_view l.fn.row));
    }

-- with what is told of the instances that are left
abbrev pub invariant-check_found-loop-index : goal.invariant-check_found-loop-index
invariant-check_found-loop-index l =
    let n = schema_view.label_of l.fn.child in
    let schema = schema_view.view l.schema in
    let inside : Tree → List Fault = λ u. walked (times_of l.targets) schema variant.NoCase (schema_view.below_of l.fn.child) u in
    IsSorted (row_view l.found) → Leaves l.fn.findings l.findings
    (each_told (is_many n.kind) n.number (l.index + 1) (each_of (instance_told (times_of l.targets) schema n n.kind inside (row_view l.found)) (row_view (drop l.index l.found))))
    (instances_told (times_of l.targets) schema n n.kind inside (row_view l.found))

use Rattle.std.proofs.Common.{drop}
use Rattle.yspec.specs.document.Sorting.{IsSorted}
use Rattle.yschema_model.specs.View as schema_view
use Rattle.yinst_tree.specs.View.{row_view}
use Rattle.ycheck.specs.Targets.{times_of_row}
use Rattle.ycheck.proofs.TargetLemmas.{Still, left_times}
use Rattle.ycheck.proofs.targets.+rows.Given as goal

-- what is added with what is left to add
abbrev pub invariant-add_row-loop-stored : goal.invariant-add_row-loop-stored
invariant-add_row-loop-stored l =
    let s = schema_view.view l.schema in
    IsSorted (row_view l.row) → IsSorted (row_view (drop l.stored-index l.row))
    × Still l.fn.targets l.targets (times_of_row s (schema_view.row_view l.children) (row_view l.row)) (left_times s (row_view (drop l.stored-index l.row)))

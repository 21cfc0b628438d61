use Rattle.std.proofs.Common.{◌≡◌, ◌++◌, map}
use Rattle.yspec.specs.document.Document.{instances_in}
use Rattle.yspec.specs.document.Sorting.{IsSorted}
use Rattle.yschema_model.specs.View as schema_view
use Rattle.yinst_tree.specs.View as document_view
use Rattle.ysay_fault.specs.Cases.{case_names}
use Rattle.ysay_fault.proofs.cases.case_names.Given as goal

-- the names so far, and those of the cases that are left
abbrev pub invariant-loop-case : goal.invariant-loop-case
invariant-loop-case l = IsSorted (document_view.row_view l.row) → map (λ name. name.now) l.names.items
    ++ case_names (instances_in (document_view.row_view l.row)) (schema_view.row_view l.case-iterator)
    ≡ case_names (instances_in (document_view.row_view l.row)) (schema_view.row_view l.fn.cases)

use Rattle.std.proofs.Common.{◌≡◌, ◌+◌, cond, length}
use Rattle.std.specs.Prelude.{nat_lt}
use Rattle.yspec.specs.document.Document.{instances_in}
use Rattle.yspec.specs.document.Sorting.{IsSorted}
use Rattle.yschema_model.specs.View as schema_view
use Rattle.yinst_tree.specs.View as document_view
use Rattle.ysay_fault.specs.Cases.{case_names, has_several}
use Rattle.ysay_fault.proofs.cases.has_several.Given as goal

-- with the one so far, several of those that are left, as of all
abbrev pub invariant-loop-case : goal.invariant-loop-case
invariant-loop-case l = IsSorted (document_view.row_view l.row)
    → nat_lt 1 (cond l.has_one 1 0 + length (case_names (instances_in (document_view.row_view l.row)) (schema_view.row_view l.case-iterator)))
    ≡ has_several (instances_in (document_view.row_view l.row)) (schema_view.row_view l.fn.cases)

use Rattle.std.proofs.Common.{◌≡◌}
use Rattle.yspec.specs.document.Document.{instances_in}
use Rattle.yspec.specs.document.Play.{stored_cases}
use Rattle.yspec.specs.document.Sorting.{IsSorted}
use Rattle.yschema_model.specs.View.{row_view}
use Rattle.yinst_tree.specs.View as document_view
use Rattle.ycheck.specs.Cases.{how_many}
use Rattle.ycheck.proofs.CaseLemmas.{with_more}
use Rattle.ycheck.proofs.cases.StoredCases.of.Given as goal

-- those so far with those of the cases that are left
abbrev pub invariant-loop-case : goal.invariant-loop-case
invariant-loop-case l = record {
  more : (goal.iterator-loop-case).can_next l.case-iterator;
  ends : (goal.iterator-loop-case).is_finite l.case-iterator;
  counted : IsSorted (document_view.row_view l.fn.rest) → IsSorted (document_view.row_view l.left)
      × (with_more l.count (stored_cases (instances_in (document_view.row_view l.left)) (row_view l.case-iterator))
      ≡ how_many (stored_cases (instances_in (document_view.row_view l.fn.rest)) (row_view l.fn.cases)));
}

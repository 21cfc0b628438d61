use Rattle.std.proofs.Common.{◌≡◌, ◌+◌, ◌≤◌, ◌++◌}
use Rattle.yspec.specs.document.Play.{stored_cases}
use Rattle.yschema_model.specs.Layout.{numbers_of}
use Rattle.yschema_model.specs.View.{row_view}
use Rattle.ystore.specs.Store.{reads}
use Rattle.ystore.specs.Views.{store_of, lent}
use Rattle.ystore_tree.specs.Parts.{OnlyReads}
use Rattle.ylive_facts.specs.Reads.{cases_reads}
use Rattle.ylive_facts.specs.Rows.{count_in, listed_in}
use Rattle.ylive_facts.proofs.cases.stored_cases.Given as goal

-- those so far with those of the cases that are left
abbrev pub invariant-loop-case : goal.invariant-loop-case
invariant-loop-case l = record {
  more : (goal.iterator-loop-case).can_next l.case-iterator;
  ends : (goal.iterator-loop-case).is_finite l.case-iterator;
  same_reference : lent l.counted ≡ lent l.fn.counted;
  kept : OnlyReads (store_of l.fn.counted) (store_of l.counted);
  reads : reads (store_of l.counted) + cases_reads (row_view l.case-iterator) ≤ reads (store_of l.fn.counted) + cases_reads (row_view l.fn.cases);
  cases : numbers_of l.found.items ++ stored_cases (count_in (listed_in (store_of l.fn.counted) l.row)) (row_view l.case-iterator)
      ≡ stored_cases (count_in (listed_in (store_of l.fn.counted) l.row)) (row_view l.fn.cases);
}

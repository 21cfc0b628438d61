use Rattle.std.proofs.Common.{◌≡◌, ◌+◌, ◌*◌, ◌≤◌}
use Rattle.yspec.specs.Forest.{size}
use Rattle.yspec.specs.document.Play.{stored_among}
use Rattle.yschema_model.specs.View.{row_view, below_of}
use Rattle.yspec_reach.specs.Sizes.{near_count}
use Rattle.ystore.specs.Store.{reads}
use Rattle.ystore.specs.Views.{store_of, lent}
use Rattle.ystore_tree.specs.Parts.{OnlyReads}
use Rattle.ylive_facts.specs.Rows.{count_in, listed_in}
use Rattle.ylive_facts.proofs.cases.+stored.Given as goal

-- what stands below a schema node is smaller than its row
abbrev pub decreases-has_stored : goal.decreases-has_stored
decreases-has_stored l = 2 * size (row_view l.children)

abbrev pub decreases-is_met : goal.decreases-is_met
decreases-is_met l = 2 * size (below_of l.child) + 1

-- none of the nodes so far
abbrev pub invariant-has_stored-loop-child : goal.invariant-has_stored-loop-child
invariant-has_stored-loop-child l = record {
  more : (goal.iterator-has_stored-loop-child).can_next l.child-iterator;
  ends : (goal.iterator-has_stored-loop-child).is_finite l.child-iterator;
  smaller : size (row_view l.child-iterator) ≤ size (row_view l.fn.children);
  same_reference : lent l.counted ≡ lent l.fn.counted;
  kept : OnlyReads (store_of l.fn.counted) (store_of l.counted);
  reads : reads (store_of l.counted) + near_count (row_view l.child-iterator) ≤ reads (store_of l.fn.counted) + near_count (row_view l.fn.children);
  none : stored_among (count_in (listed_in (store_of l.fn.counted) l.row)) (row_view l.child-iterator)
      ≡ stored_among (count_in (listed_in (store_of l.fn.counted) l.row)) (row_view l.fn.children);
}

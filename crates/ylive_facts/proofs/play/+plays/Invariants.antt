use Rattle.std.proofs.Common.{◌≡◌, ◌+◌, ◌*◌, ◌≤◌}
use Rattle.yspec.specs.Forest.{size}
use Rattle.yschema_model.specs.Layout.{numbers_of}
use Rattle.yschema_model.specs.View.{view, row_view, below_of}
use Rattle.ystore.specs.Store.{reads}
use Rattle.ystore.specs.Views.{store_of, lent}
use Rattle.ystore_tree.specs.Parts.{OnlyReads}
use Rattle.ylive_facts.specs.Reads.{play_reads}
use Rattle.ylive_facts.specs.Rows.{count_in, listed_in}
use Rattle.ylive_facts.proofs.PlayLemmas.{RowLeft}
use Rattle.ylive_facts.proofs.play.+plays.Given as goal

-- what stands below a schema node is smaller than its row
abbrev pub decreases-add_row : goal.decreases-add_row
decreases-add_row l = 4 * size (row_view l.children)

abbrev pub decreases-add_node : goal.decreases-add_node
decreases-add_node l = 4 * size (below_of l.child) + 3

abbrev pub decreases-add_data : goal.decreases-add_data
decreases-add_data l = 4 * size (below_of l.child) + 2

abbrev pub decreases-add_absent : goal.decreases-add_absent
decreases-add_absent l = 4 * size (below_of l.child) + 1

-- what was found with what is in play of the nodes that are left
abbrev pub invariant-add_row-loop-child : goal.invariant-add_row-loop-child
invariant-add_row-loop-child l = record {
  more : (goal.iterator-add_row-loop-child).can_next l.child-iterator;
  ends : (goal.iterator-add_row-loop-child).is_finite l.child-iterator;
  smaller : size (row_view l.child-iterator) ≤ size (row_view l.fn.children);
  same_reference : lent l.counted ≡ lent l.fn.counted;
  kept : OnlyReads (store_of l.fn.counted) (store_of l.counted);
  reads : reads (store_of l.counted) + play_reads (row_view l.child-iterator) ≤ reads (store_of l.fn.counted) + play_reads (row_view l.fn.children);
  plays : RowLeft (view l.schema) (count_in (listed_in (store_of l.fn.counted) l.row)) (numbers_of l.chosen) (row_view l.fn.children) (row_view l.child-iterator) l.fn.found l.found;
}

use Rattle.ybase_index.specs.Index.{texts_of}
use Rattle.ybase_preorder.specs.View.{row_by}
use Rattle.yschema_expand.specs.NumberedView.{with_number}
use Rattle.yschema_augment.specs.SearchView.{Adds, AreTexts}
use Rattle.yschema_augment.specs.declared.search.Search.{Search}
use Rattle.yschema_augment.proofs.search.Search.add_row.Given as goal

-- whatever adds the nodes that are left adds all
abbrev pub invariant-loop-node : goal.invariant-loop-node
invariant-loop-node l = record {
  more : (goal.iterator-loop-node).can_next l.node-iterator;
  ends : (goal.iterator-loop-node).is_finite l.node-iterator;
  texts : AreTexts (texts_of l.self.index) (row_by with_number l.node-iterator);
  so_far : (final : Search) → Adds l.target (row_by with_number l.node-iterator) l.self final → Adds l.target (row_by with_number l.fn.row) l.fn.self final;
}

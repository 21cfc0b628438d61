use Rattle.ybase_index.specs.Index.{texts_of}
use Rattle.ybase_preorder.specs.View.{row_by}
use Rattle.yschema_expand.specs.NumberedView.{with_number}
use Rattle.yschema_augment.specs.Hanging.{inner}
use Rattle.yschema_augment.specs.SearchView.{Adds, AreTexts}
use Rattle.yschema_augment.specs.declared.search.Search.{Search}
use Rattle.yschema_augment.proofs.search.Search.add_body.Given as goal

-- whatever adds what stands in the cases that are left adds all
abbrev pub invariant-loop-case : goal.invariant-loop-case
invariant-loop-case l = record {
  more : (goal.iterator-loop-case).can_next l.case-iterator;
  ends : (goal.iterator-loop-case).is_finite l.case-iterator;
  texts : AreTexts (texts_of l.self.index) (row_by with_number l.case-iterator);
  so_far : (final : Search) → Adds l.target (inner (row_by with_number l.case-iterator)) l.self final → Adds l.target (inner (row_by with_number l.fn.body)) l.fn.self final;
}

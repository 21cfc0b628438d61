use Rattle.std.proofs.Common.{◌≡◌, ◌≤◌, ◌++◌, List, map}
use Rattle.yspec.specs.Forest.{Forest, size}
use Rattle.yspec.specs.linking.Source.{Source}
use Rattle.yspec.specs.linking.Scopes.{placed}
use Rattle.ybase_preorder.specs.View.{row_by, row_view}
use Rattle.ylink_grammar.specs.SourceView.{source_view}
use Rattle.ylink_names.specs.DefinitionView.{IsAround}
use Rattle.ylink_names.specs.MeaningView.{number_meant, AreModules}
use Rattle.ylink_names.proofs.meanings.+add_meanings.Given as goal

-- what stands below a statement is smaller than its row
abbrev pub decreases-add_meanings : goal.decreases-add_meanings
decreases-add_meanings l = size (row_view l.statements)

abbrev pub invariant-loop-statement : goal.invariant-loop-statement
invariant-loop-statement l = record {
  more : (goal.iterator-loop-statement).can_next l.statement-iterator;
  ends : (goal.iterator-loop-statement).is_finite l.statement-iterator;
  smaller : size (row_view l.statement-iterator) ≤ size (row_view l.fn.statements);
  made : (set : Forest Source) (ancestors : List (Source × Forest Source)) → AreModules l.modules set → IsAround l.scope ancestors
      → l.made.items ++ map (number_meant set) (placed ancestors (row_by source_view l.statement-iterator))
      ≡ l.fn.made.items ++ map (number_meant set) (placed ancestors (row_by source_view l.fn.statements));
}

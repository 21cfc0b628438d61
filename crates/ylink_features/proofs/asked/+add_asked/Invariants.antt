use Rattle.std.proofs.Common.{◌≡◌, ◌≤◌, ◌++◌, List, map}
use Rattle.std.specs.List.{flat_map}
use Rattle.yspec.specs.Forest.{Forest, size}
use Rattle.yspec.specs.linking.Source.{Source}
use Rattle.yspec.specs.linking.Scopes.{placed}
use Rattle.ybase_preorder.specs.View.{row_by, row_view}
use Rattle.ylink_grammar.specs.LanguageView.{language_view}
use Rattle.ylink_grammar.specs.SourceView.{source_view}
use Rattle.ylink_features.specs.AskedView.{IsMeaning, above_in, asked_of, asked_view}
use Rattle.ylink_features.proofs.asked.+add_asked.Given as goal

-- what stands below a statement is smaller than its row
abbrev pub decreases-add_asked : goal.decreases-add_asked
decreases-add_asked l = size (row_view l.statements)

abbrev pub invariant-loop-statement : goal.invariant-loop-statement
invariant-loop-statement l = record {
  more : (goal.iterator-loop-statement).can_next l.statement-iterator;
  ends : (goal.iterator-loop-statement).is_finite l.statement-iterator;
  smaller : size (row_view l.statement-iterator) ≤ size (row_view l.fn.statements);
  made : (modules : Forest Source) (ancestors : List (Source × Forest Source)) → IsMeaning l.meaning modules
      → l.above ≡ above_in (language_view l.meaning.language.now) ancestors
      → map asked_view l.made.items ++ flat_map (asked_of (language_view l.meaning.language.now) modules) (placed ancestors (row_by source_view l.statement-iterator))
      ≡ map asked_view l.fn.made.items ++ flat_map (asked_of (language_view l.meaning.language.now) modules) (placed ancestors (row_by source_view l.fn.statements));
}

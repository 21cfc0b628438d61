use Rattle.std.proofs.Common.{◌≡◌, ◌≤◌, List}
use Rattle.std.specs.List.{flat_map}
use Rattle.yspec.specs.Forest.{Forest, size}
use Rattle.yspec.specs.linking.Scopes.{placed}
use Rattle.yspec.specs.linking.Source.{Source}
use Rattle.yspec.specs.schema.Breaks.{least_from}
use Rattle.yspec_wide.specs.Language.{Language}
use Rattle.yspec_wide.specs.VersionBreaks.{version_import_break}
use Rattle.ybase_preorder.specs.View.{row_by, row_view}
use Rattle.ylink_grammar.specs.BreakView.{seen}
use Rattle.ylink_grammar.specs.SourceView.{source_view}
use Rattle.ylink_features.specs.VersionView.{AreVersionsNamed, AreVersionsOf}
use Rattle.ylink_features.proofs.importing.+judge_imports.Given as goal

-- what stands below a statement is smaller than its row
abbrev pub decreases-judge_imports : goal.decreases-judge_imports
decreases-judge_imports l = size (row_view l.statements)

abbrev pub invariant-loop-statement : goal.invariant-loop-statement
invariant-loop-statement l = record {
  more : (goal.iterator-loop-statement).can_next l.statement-iterator;
  ends : (goal.iterator-loop-statement).is_finite l.statement-iterator;
  smaller : size (row_view l.statement-iterator) ≤ size (row_view l.fn.statements);
  so_far : (language : Language) (modules : Forest Source) (ancestors : List (Source × Forest Source)) → AreVersionsOf l.versions language modules
      → AreVersionsNamed l.by_name language modules
      → least_from (seen l.told) (flat_map (version_import_break language modules) (placed ancestors (row_by source_view l.statement-iterator)))
      ≡ least_from (seen l.fn.so_far) (flat_map (version_import_break language modules) (placed ancestors (row_by source_view l.fn.statements)));
}

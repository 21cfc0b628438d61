use Rattle.std.proofs.Common.{◌≡◌}
use Rattle.yspec.specs.Forest.{Forest}
use Rattle.yspec.specs.linking.Imports.{unmet_in}
use Rattle.yspec.specs.linking.Source.{Source}
use Rattle.yspec.specs.schema.Breaks.{least_from}
use Rattle.ybase_preorder.specs.View.{row_by}
use Rattle.ylink_grammar.specs.BreakView.{seen}
use Rattle.ylink_grammar.specs.SourceView.{source_view}
use Rattle.ylink_names.specs.PrefixView.{AreModulesOf}
use Rattle.ylink_names.specs.RevisionView.{AreRevisionsOf}
use Rattle.ylink_names.proofs.imports.judge_imports.Given as goal

abbrev pub invariant-loop-statement : goal.invariant-loop-statement
invariant-loop-statement l = record {
  more : (goal.iterator-loop-statement).can_next l.statement-iterator;
  ends : (goal.iterator-loop-statement).is_finite l.statement-iterator;
  so_far : (modules : Forest Source) → AreRevisionsOf l.newest modules → AreModulesOf l.places modules
      → least_from (seen l.told) (unmet_in modules (row_by source_view l.statement-iterator)) ≡ least_from (seen l.fn.so_far) (unmet_in modules (row_by source_view l.fn.body));
}

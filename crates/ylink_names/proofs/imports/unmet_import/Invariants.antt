use Rattle.std.proofs.Common.{◌≡◌}
use Rattle.yspec.specs.linking.Imports.{import_breaks, unmet_from}
use Rattle.yspec.specs.schema.Breaks.{least_from}
use Rattle.ybase_preorder.specs.View.{row_by}
use Rattle.ylink_grammar.specs.BreakView.{seen}
use Rattle.ylink_grammar.specs.LinkView.{view}
use Rattle.ylink_grammar.specs.SourceView.{source_view}
use Rattle.ylink_names.specs.PrefixView.{AreModulesOf}
use Rattle.ylink_names.proofs.imports.unmet_import.Given as goal

abbrev pub invariant-loop-top : goal.invariant-loop-top
invariant-loop-top l = record {
  more : (goal.iterator-loop-top).can_next l.top-iterator;
  ends : (goal.iterator-loop-top).is_finite l.top-iterator;
  so_far : AreModulesOf l.places (view l.sources) → least_from (seen l.told) (unmet_from (view l.sources) (row_by source_view l.top-iterator))
      ≡ least_from (seen l.fn.so_far) (import_breaks (view l.sources));
}

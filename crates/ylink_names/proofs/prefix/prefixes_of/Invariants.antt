use Rattle.std.proofs.Common.{◌≡◌}
use Rattle.yspec.specs.Forest.{Forest, first_of}
use Rattle.yspec.specs.text.Text.{Text}
use Rattle.yspec.specs.linking.Source.{Source}
use Rattle.ybase_preorder.specs.View.{row_by}
use Rattle.ylink_grammar.specs.SourceView.{source_view}
use Rattle.ylink_names.specs.FirstNamedView.{named}
use Rattle.ylink_names.specs.PrefixView.{AreModulesOf, declared_by}
use Rattle.ylink_names.proofs.DeclaredLemmas.{imported_in}
use Rattle.ylink_names.proofs.prefix.prefixes_of.Given as goal

abbrev pub invariant-loop-statement : goal.invariant-loop-statement
invariant-loop-statement l = record {
  more : (goal.iterator-loop-statement).can_next l.statement-iterator;
  ends : (goal.iterator-loop-statement).is_finite l.statement-iterator;
  so_far : (modules : Forest Source) → AreModulesOf l.places modules → (prefix : Text)
      → first_of (named l.declared prefix) (imported_in modules prefix (row_by source_view l.statement-iterator))
      ≡ declared_by modules l.home prefix (row_by source_view l.fn.body);
}

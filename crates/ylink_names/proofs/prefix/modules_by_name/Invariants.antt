use Rattle.std.proofs.Common.{◌≡◌}
use Rattle.yspec.specs.Forest.{first_of}
use Rattle.yspec.specs.text.Text.{Text}
use Rattle.yspec.specs.linking.Imports.{module_called}
use Rattle.ybase_preorder.specs.View.{row_by}
use Rattle.ylink_grammar.specs.LinkView.{view}
use Rattle.ylink_grammar.specs.SourceView.{source_view}
use Rattle.ylink_names.specs.FirstNamedView.{named}
use Rattle.ylink_names.proofs.prefix.modules_by_name.Given as goal

abbrev pub invariant-loop-top : goal.invariant-loop-top
invariant-loop-top l = record {
  more : (goal.iterator-loop-top).can_next l.top-iterator;
  ends : (goal.iterator-loop-top).is_finite l.top-iterator;
  so_far : (name : Text) → first_of (named l.places name) (module_called (row_by source_view l.top-iterator) name) ≡ module_called (view l.sources) name;
}

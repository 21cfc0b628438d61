use Rattle.std.proofs.Common.{◌≡◌, ◌++◌, length, map}
use Rattle.yspec.specs.text.Text.{Text}
use Rattle.ybase_preorder.specs.View.{row_by}
use Rattle.ylink_grammar.specs.LinkView.{view}
use Rattle.ylink_grammar.specs.SourceView.{source_view}
use Rattle.ylink_names.specs.declared.definitions.DefinitionKind.{DefinitionKind}
use Rattle.ylink_names.specs.DefinitionView.{first_in}
use Rattle.ylink_names.specs.MeaningView.{top_number}
use Rattle.ylink_names.specs.PlaceView.{by_place}
use Rattle.ylink_names.proofs.meanings.tops_of.Given as goal

abbrev pub invariant-loop-module : goal.invariant-loop-module
invariant-loop-module l = record {
  more : (goal.iterator-loop-module).can_next l.module-iterator;
  ends : (goal.iterator-loop-module).is_finite l.module-iterator;
  tops : (kind : DefinitionKind) (name : Text)
      → map (λ d. first_in kind d name) l.tops.items ++ by_place (top_number kind name) (length l.tops.items) (row_by source_view l.module-iterator)
      ≡ by_place (top_number kind name) 0 (view l.sources);
}

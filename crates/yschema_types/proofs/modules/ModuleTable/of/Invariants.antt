use Rattle.std.proofs.Common.{◌≡◌, ◌++◌, map}
use Rattle.ybase_preorder.specs.View.{row_by}
use Rattle.ylink_grammar.specs.SourceView.{source_view}
use Rattle.ylink.specs.LinkedView.{view}
use Rattle.yschema_types.specs.ModulesView.{named_view, names_in_row}
use Rattle.yschema_types.proofs.modules.ModuleTable.of.Given as goal

abbrev pub invariant-loop-top : goal.invariant-loop-top
invariant-loop-top l = record {
  more : (goal.iterator-loop-top).can_next l.top-iterator;
  ends : (goal.iterator-loop-top).is_finite l.top-iterator;
  so_far : map named_view l.modules.items ++ names_in_row (row_by source_view l.top-iterator) ≡ names_in_row (view l.linked);
}

use Rattle.std.proofs.Common.{◌≡◌}
use Rattle.ybase_preorder.specs.View.{row_by}
use Rattle.ylink_grammar.specs.LinkView.{view}
use Rattle.ylink_grammar.specs.SourceView.{source_view}
use Rattle.ylink.specs.ModuleView.{module_in}
use Rattle.ylink.proofs.modules.module_at.Given as goal

abbrev pub invariant-loop-top : goal.invariant-loop-top
invariant-loop-top l = record {
  more : (goal.iterator-loop-top).can_next l.top-iterator;
  ends : (goal.iterator-loop-top).is_finite l.top-iterator;
  rest : module_in (row_by source_view l.top-iterator) l.left ≡ module_in (view l.sources) l.number;
}

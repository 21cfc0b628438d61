use Rattle.std.proofs.Common.{◌≡◌, ◌++◌}
use Rattle.yspec.specs.linking.Augments.{augments_of}
use Rattle.ybase_preorder.specs.View.{row_by}
use Rattle.ylink_grammar.specs.SourceView.{source_view}
use Rattle.yschema_expand.specs.AugmentView.{augments_seen}
use Rattle.yschema_expand.specs.NamedView.{modules_of}
use Rattle.yschema_expand.proofs.augments.augments_of.Given as goal

-- those so far, with those of the modules that are left
abbrev pub invariant-loop-top : goal.invariant-loop-top
invariant-loop-top l = record {
  more : (goal.iterator-loop-top).can_next l.top-iterator;
  ends : (goal.iterator-loop-top).is_finite l.top-iterator;
  so_far : augments_seen l.augments.items ++ augments_of (row_by source_view l.top-iterator) ≡ augments_of (modules_of l.named);
}

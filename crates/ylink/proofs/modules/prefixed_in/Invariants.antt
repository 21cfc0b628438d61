use Rattle.std.proofs.Common.{◌≡◌, ◌++◌, map}
use Rattle.yspec.specs.linking.Identities.{prefixed_in}
use Rattle.ybase_preorder.specs.View.{row_by}
use Rattle.ylink_grammar.specs.SourceView.{source_view}
use Rattle.ytype.specs.Identities.{pair_view}
use Rattle.ylink.proofs.modules.prefixed_in.Given as goal

abbrev pub invariant-loop-statement : goal.invariant-loop-statement
invariant-loop-statement l = record {
  more : (goal.iterator-loop-statement).can_next l.statement-iterator;
  ends : (goal.iterator-loop-statement).is_finite l.statement-iterator;
  so_far : map pair_view l.made.items ++ prefixed_in l.own (row_by source_view l.statement-iterator)
      ≡ prefixed_in l.own (row_by source_view l.fn.body);
}

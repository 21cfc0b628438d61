use Rattle.std.proofs.Common.{◌≡◌, ◌≤◌, List}
use Rattle.std.specs.List.{flat_map}
use Rattle.yspec.specs.Forest.{Forest, size}
use Rattle.yspec.specs.linking.Source.{Source}
use Rattle.yspec.specs.linking.Scopes.{placed, taken_break}
use Rattle.yspec.specs.schema.Breaks.{least_from}
use Rattle.ybase_preorder.specs.View.{row_by, row_view}
use Rattle.ylink_grammar.specs.BreakView.{seen}
use Rattle.ylink_grammar.specs.SourceView.{source_view}
use Rattle.ylink_names.specs.DefinitionView.{IsAround}
use Rattle.ylink_names.proofs.taken.+broken_taken_rule_in.Given as goal

-- what stands below a statement is smaller than its row
abbrev pub decreases-broken_taken_rule_in : goal.decreases-broken_taken_rule_in
decreases-broken_taken_rule_in l = size (row_view l.statements)

abbrev pub invariant-loop-statement : goal.invariant-loop-statement
invariant-loop-statement l = record {
  more : (goal.iterator-loop-statement).can_next l.statement-iterator;
  ends : (goal.iterator-loop-statement).is_finite l.statement-iterator;
  smaller : size (row_view l.statement-iterator) ≤ size (row_view l.fn.statements);
  told : (ancestors : List (Source × Forest Source)) → IsAround l.scope ancestors
      → least_from (seen l.told) (flat_map taken_break (placed ancestors (row_by source_view l.statement-iterator)))
      ≡ least_from (seen l.fn.so_far) (flat_map taken_break (placed ancestors (row_by source_view l.fn.statements)));
}

use Rattle.std.proofs.Common.{◌≡◌, ◌++◌, ◌+◌, ◌≤◌, length, true}
use Rattle.yspec.specs.Forest.{size}
use Rattle.ybase_preorder.specs.View.{row_by, row_view}
use Rattle.ylink_grammar.specs.LanguageView.{language_view}
use Rattle.ylink_grammar.specs.SourceView.{source_view}
use Rattle.yschema_given.specs.Keeping.{are_leaves, leaf_keywords, other_keywords}
use Rattle.yschema_given.proofs.conditions.others_of.Given as goal

-- those so far, with those that are left, and no more than there are statements
abbrev pub invariant-loop-statement : goal.invariant-loop-statement
invariant-loop-statement l = record {
  more : (goal.iterator-loop-statement).can_next l.statement-iterator;
  ends : (goal.iterator-loop-statement).is_finite l.statement-iterator;
  so_far : leaf_keywords l.others.items ++ other_keywords (language_view l.language) (row_by source_view l.statement-iterator)
      ≡ other_keywords (language_view l.language) (row_by source_view l.fn.statements);
  leaves : are_leaves l.others.items ≡ true;
  few : length l.others.items + size (row_view l.statement-iterator) ≤ size (row_view l.fn.statements);
}

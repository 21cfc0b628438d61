use Rattle.std.proofs.Common.{◌≡◌}
use Rattle.yspec.specs.Forest.{size}
use Rattle.yspec.specs.linking.Source.{all_with}
use Rattle.ybase_preorder.specs.View.{row_by, row_view}
use Rattle.ybase_words.specs.KeywordView.{keyword_view}
use Rattle.ylink_grammar.specs.SourceView.{source_view}
use Rattle.yschema_plan.specs.OwnView.{left}
use Rattle.yschema_plan.proofs.own.OwnStatementsIterator.next.Given as goal

abbrev pub decreases-loop-statement : goal.decreases-loop-statement
decreases-loop-statement l = size (row_view l.rest)

abbrev pub invariant-loop-statement : goal.invariant-loop-statement
invariant-loop-statement l =
    all_with (keyword_view l.self.keyword) (row_by source_view l.rest) ≡ left l.fn.self

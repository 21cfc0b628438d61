use Rattle.std.proofs.Common.{◌≡◌, drop}
use Rattle.yspec.specs.schema.Breaks.{least_from}
use Rattle.ybase_preorder.specs.View.{slots_in}
use Rattle.ylink_grammar.specs.BreakView.{seen}
use Rattle.ylink_grammar.specs.LanguageView.{language_view}
use Rattle.ylink_grammar.specs.LinkView.{view}
use Rattle.ylink_grammar.proofs.BreakLemmas.{broken_from}
use Rattle.ylink_features.specs.ConditionView.{unknown_break}
use Rattle.ylink_features.proofs.unknown.broken_condition_prefix_rule.Given as goal

abbrev pub invariant-loop-row : goal.invariant-loop-row
invariant-loop-row l = let rows = slots_in l.sources.table in
    least_from (seen l.told) (broken_from (unknown_break (language_view l.language) (view l.sources)) l.row-index (drop l.row-index rows))
    ≡ least_from (seen l.fn.so_far) (broken_from (unknown_break (language_view l.language) (view l.sources)) 0 rows)

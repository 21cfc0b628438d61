use Rattle.std.proofs.Common.{◌≡◌, drop}
use Rattle.yspec.specs.schema.Breaks.{least_from}
use Rattle.ybase_preorder.specs.View.{slots_in}
use Rattle.ylink_grammar.specs.BreakView.{seen}
use Rattle.ylink_grammar.specs.LanguageView.{language_view}
use Rattle.ylink_grammar.proofs.BreakLemmas.{broken_from}
use Rattle.ylink.specs.PatternView.{unspelled_break}
use Rattle.ylink.proofs.patterns.judge_patterns.Given as goal

abbrev pub invariant-loop-row : goal.invariant-loop-row
invariant-loop-row l = let rows = slots_in l.sources.table in
    least_from (seen l.told) (broken_from (unspelled_break (language_view l.language)) l.row-index (drop l.row-index rows))
    ≡ least_from (seen l.fn.so_far) (broken_from (unspelled_break (language_view l.language)) 0 rows)

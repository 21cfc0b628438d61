use Rattle.std.proofs.Common.{◌≡◌, drop, None}
use Rattle.yspec.specs.schema.Breaks.{least_from}
use Rattle.yspec.specs.linking.Prefixes.{prefix_break}
use Rattle.ybase_preorder.specs.View.{slots_in}
use Rattle.ylink_grammar.specs.BreakView.{seen}
use Rattle.ylink_grammar.specs.LinkView.{view}
use Rattle.ylink_grammar.proofs.BreakLemmas.{broken_from}
use Rattle.ylink_names.proofs.prefix.undeclared_prefix.Given as goal

abbrev pub invariant-loop-row : goal.invariant-loop-row
invariant-loop-row l = let rows = slots_in l.sources.table in
    least_from (seen l.told) (broken_from (prefix_break (view l.sources)) l.row-index (drop l.row-index rows)) ≡ least_from None (broken_from (prefix_break (view l.sources)) 0 rows)

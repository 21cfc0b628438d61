use Rattle.std.proofs.Common.{◌≡◌, drop, None}
use Rattle.yspec.specs.schema.Breaks.{least_from}
use Rattle.ybase_preorder.specs.View.{slots_in}
use Rattle.ylink_grammar.specs.BreakView.{seen}
use Rattle.ylink_grammar.proofs.BreakLemmas.{broken_from}
use Rattle.ylink.specs.VerdictView.{table_view, verdict_held, told_by}
use Rattle.ylink.proofs.judging.broken_type_rule.Given as goal

abbrev pub invariant-loop-number : goal.invariant-loop-number
invariant-loop-number l = let rows = slots_in l.sources.table in
    least_from (seen l.told) (broken_from (λ s. told_by s (verdict_held (table_view l.verdicts) s.number)) l.number (drop l.number rows))
    ≡ least_from None (broken_from (λ s. told_by s (verdict_held (table_view l.verdicts) s.number)) 0 rows)

use Rattle.std.proofs.Common.{◌≡◌, drop}
use Rattle.yspec.specs.schema.Breaks.{least_from}
use Rattle.ybase_preorder.specs.View.{slots_in}
use Rattle.ylink_grammar.specs.BreakView.{seen}
use Rattle.ylink_grammar.proofs.BreakLemmas.{broken_from}
use Rattle.ylink_names.specs.MeaningView.{meaning_at, lost_by}
use Rattle.ylink_names.proofs.lost.broken_lost_rule.Given as goal

abbrev pub invariant-loop-number : goal.invariant-loop-number
invariant-loop-number l = let rows = slots_in l.sources.table in
    least_from (seen l.told) (broken_from (λ s. lost_by s (meaning_at l.meanings s.number)) l.number (drop l.number rows))
    ≡ least_from (seen l.fn.so_far) (broken_from (λ s. lost_by s (meaning_at l.meanings s.number)) 0 rows)

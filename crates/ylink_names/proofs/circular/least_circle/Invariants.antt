use Rattle.std.proofs.Common.{◌≡◌, drop}
use Rattle.yspec.specs.schema.Breaks.{least_from}
use Rattle.ybase_preorder.specs.View.{slots_in}
use Rattle.ylink_grammar.specs.BreakView.{seen}
use Rattle.ylink_grammar.proofs.BreakLemmas.{broken_from}
use Rattle.ylink_names.specs.EdgeView.{flag_at, circle_by}
use Rattle.ylink_names.proofs.circular.least_circle.Given as goal

abbrev pub invariant-loop-number : goal.invariant-loop-number
invariant-loop-number l = let rows = slots_in l.sources.table in
    least_from (seen l.told) (broken_from (λ s. circle_by s (flag_at l.circular s.number)) l.number (drop l.number rows))
    ≡ least_from (seen l.fn.so_far) (broken_from (λ s. circle_by s (flag_at l.circular s.number)) 0 rows)

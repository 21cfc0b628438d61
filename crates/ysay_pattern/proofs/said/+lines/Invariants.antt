use Rattle.std.proofs.Common.{◌≡◌, ◌++◌, drop, map}
use Rattle.ytext.specs.View.{row_view}
use Rattle.ysay_pattern.specs.Said.{patterns_in}
use Rattle.ysay_pattern.proofs.said.+lines.Given as goal

abbrev pub invariant-add_all_patterns-loop-statement : goal.invariant-add_all_patterns-loop-statement
invariant-add_all_patterns-loop-statement l =
    map (λ t. t.now) l.patterns.items ++ patterns_in l.line (row_view (drop l.statement-index l.statements))
    ≡ map (λ t. t.now) l.fn.patterns.items ++ patterns_in l.line (row_view l.statements)

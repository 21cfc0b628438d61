use Rattle.std.proofs.Common.{◌≡◌, drop}
use Rattle.yspec.specs.Forest.{row}
use Rattle.ytext.specs.View.{row_view}
use Rattle.ylink_grammar.specs.Counts.{are_apart}
use Rattle.ylink_grammar.proofs.grammar.are_apart.Given as goal

abbrev pub invariant-loop-place : goal.invariant-loop-place
invariant-loop-place l = are_apart (row (row_view (drop l.place l.statements))) ≡ are_apart (row (row_view l.statements))

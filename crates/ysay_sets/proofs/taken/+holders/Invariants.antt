use Rattle.std.proofs.Common.{◌≡◌, drop}
use Rattle.ytext.specs.View.{row_view}
use Rattle.ysay_sets.specs.Taken.{holder}
use Rattle.ysay_sets.proofs.taken.+holders.Given as goal

abbrev pub invariant-holder-loop-statement : goal.invariant-holder-loop-statement
invariant-holder-loop-statement l = holder l.word l.name l.line l.held (row_view (drop l.statement-index l.statements))
    ≡ holder l.word l.name l.line l.held (row_view l.statements)

use Rattle.std.proofs.Common.{◌≡◌, drop, option_map}
use Rattle.ytext.specs.View.{row_view}
use Rattle.ysay_text.specs.Labels.{label}
use Rattle.ysay_circles.specs.Places.{barred_in}
use Rattle.ysay_circles.proofs.places.+places.Given as goal

abbrev pub invariant-barred_in-loop-statement : goal.invariant-barred_in-loop-statement
invariant-barred_in-loop-statement l = barred_in l.line (option_map (λ s. label s.now) l.bar) (row_view (drop l.statement-index l.statements))
    ≡ barred_in l.line (option_map (λ s. label s.now) l.fn.bar) (row_view l.fn.statements)

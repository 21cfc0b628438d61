use Rattle.std.proofs.Common.{◌≡◌, ◌++◌, drop, map}
use Rattle.std.specs.List.{flat_map}
use Rattle.ytext.specs.View.{view}
use Rattle.ylink_arguments.specs.NameView.{names_view}
use Rattle.ysay_circles.specs.Conditions.{names_in_line}
use Rattle.ysay_circles.proofs.conditions.names_in.Given as goal

abbrev pub invariant-loop-statement : goal.invariant-loop-statement
invariant-loop-statement l = names_view l.names.items ++ flat_map (names_in_line l.line) (map (λ s. view s.now) (drop l.statement-index l.statements))
    ≡ flat_map (names_in_line l.line) (map (λ s. view s.now) l.statements)

use Rattle.std.proofs.Common.{◌≡◌, ◌++◌, drop, map}
use Rattle.ysay_codes.specs.View.{explanation_view}
use Rattle.ysay_codes.proofs.explanation.with_family.Given as goal

-- with those that are left behind them they are all
abbrev pub invariant-loop-explanation : goal.invariant-loop-explanation
invariant-loop-explanation l =
    map (λ e. explanation_view e.now) l.said.items ++ map explanation_view (drop l.explanation-index l.explanations)
    ≡ map (λ e. explanation_view e.now) l.initial.said.items ++ map explanation_view l.explanations

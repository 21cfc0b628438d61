use Rattle.std.proofs.Common.{◌≡◌, ◌++◌, drop, map}
use Rattle.ysay_codes.specs.Codes.{explanations_of}
use Rattle.ysay_codes.specs.View.{explanation_view}
use Rattle.ysay_codes.proofs.explanation.explanations.Given as goal

-- with what is said of the words that are left behind them they are all
abbrev pub invariant-loop-word : goal.invariant-loop-word
invariant-loop-word l =
    map (λ e. explanation_view e.now) l.said.items ++ explanations_of (map (λ w. w.now) (drop l.word-index l.words))
    ≡ explanations_of (map (λ w. w.now) l.words)

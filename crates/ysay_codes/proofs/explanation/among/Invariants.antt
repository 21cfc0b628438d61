use Rattle.std.proofs.Common.{◌≡◌, ◌++◌, drop, find, map}
use Rattle.yspec.specs.text.Text.{is_text}
use Rattle.ysay_codes.specs.View.{explanation_view}
use Rattle.ysay_codes.proofs.explanation.among.Given as goal

-- it is found among those that are left as among all
abbrev pub invariant-loop-explanation : goal.invariant-loop-explanation
invariant-loop-explanation l =
    find (λ e. is_text (l.fn.front ++ l.fn.back) e.code) (map explanation_view (drop l.explanation-index l.explanations))
    ≡ find (λ e. is_text (l.fn.front ++ l.fn.back) e.code) (map explanation_view l.explanations)

use Rattle.std.proofs.Common.{◌≡◌, drop, map}
use Rattle.ysay_codes.specs.Codes.{unknown_among}
use Rattle.ysay_codes.proofs.explanation.first_unknown.Given as goal

-- the first of those that are left is the first of all
abbrev pub invariant-loop-word : goal.invariant-loop-word
invariant-loop-word l =
    unknown_among (map (λ w. w.now) (drop l.word-index l.words)) ≡ unknown_among (map (λ w. w.now) l.words)

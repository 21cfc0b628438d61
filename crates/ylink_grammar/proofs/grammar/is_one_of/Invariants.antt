use Rattle.std.proofs.Common.{◌≡◌, drop, map}
use Rattle.std.specs.List.{list_any}
use Rattle.yspec_wide.specs.Words.{same_word}
use Rattle.ylink_grammar.specs.WordView.{word_view}
use Rattle.ylink_grammar.proofs.grammar.is_one_of.Given as goal

abbrev pub invariant-loop-other : goal.invariant-loop-other
invariant-loop-other l =
    list_any (λ w. same_word w (word_view l.word)) (map word_view (drop l.other-index l.words)) ≡ list_any (λ w. same_word w (word_view l.word)) (map word_view l.words)

use Rattle.std.proofs.Common.{ap, ◌∙◌}
use Rattle.ytype_numbers.specs.Words.{items_of}
use Rattle.ytype_numbers.proofs.WordLemmas.{word_taken, word_passed}
use Rattle.ytype_numbers.proofs.bits.words_of.Goals as goal
use Rattle.ytype_numbers.proofs.bits.words_of.Goals.{then-is_word+in_ok-push, else-is_word}

pub pieces-preserved : goal.pieces-preserved
pieces-preserved c =
    let pieces = c.deref-piece-items.result.now in
    let i = c.pieces.piece-index in
    elim c.if-is_word.branch [
      | then-is_word+in_ok-push w ↦ word_taken c.pieces.words.items c.if-is_word.words.items pieces i _ c.pieces-test.true (ap items_of w.words-is ∙ w.in_ok-push.ensures.items) w.if-is_word.ensures ∙ c.pieces.invariant
      | else-is_word w ↦ word_passed c.pieces.words.items c.if-is_word.words.items pieces i _ c.pieces-test.true (ap items_of w.words-is) w.if-is_word.ensures ∙ c.pieces.invariant
    ]

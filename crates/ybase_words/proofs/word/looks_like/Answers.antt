use Rattle.ybase_words.proofs.WordLemmas.{no_more}
use Rattle.ybase_words.proofs.word.looks_like.Goals as goal

pub returns-in-None : goal.returns-in-None
returns-in-None c =
    no_more c.args.shape.now c.loop-mark.mark-index c.loop-mark.rest.now _ c.loop-mark-test.true c.in-None.ensures.cases c.loop-mark.invariant

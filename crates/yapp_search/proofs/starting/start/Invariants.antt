use Rattle.std.proofs.Common.{length}
use Rattle.ylink_grammar.specs.LanguageView.{language_view}
use Rattle.yapp_search.proofs.ReadingLemmas.{texts_in}
use Rattle.yapp_search.proofs.SearchingLemmas.{StartedSoFar}
use Rattle.yapp_search.proofs.starting.start.Given as goal

abbrev pub invariant-loop-text : goal.invariant-loop-text
invariant-loop-text l = StartedSoFar (language_view l.language) (texts_in l.texts) (texts_in l.rest) l.sought

abbrev pub decreases-loop-text : goal.decreases-loop-text
decreases-loop-text l = length l.rest

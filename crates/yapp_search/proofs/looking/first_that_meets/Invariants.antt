use Rattle.std.proofs.Common.{length, map, string_bytes}
use Rattle.ylink_grammar.specs.LanguageView.{language_view}
use Rattle.ylink_search.specs.WantedView.{wanted_view}
use Rattle.yapp_search.specs.Reading.{store}
use Rattle.yapp_search.proofs.LookingLemmas.{SeenSoFar}
use Rattle.yapp_search.proofs.looking.first_that_meets.Given as goal

abbrev pub invariant-loop-file : goal.invariant-loop-file
invariant-loop-file g l = SeenSoFar (language_view l.language) (wanted_view l.wanted) (map string_bytes l.names) (map string_bytes l.rest)
    (store g.F.Files.contents g.F.Files.reads g.F.Files.failures l.fn.files) (store g.F.Files.contents g.F.Files.reads g.F.Files.failures l.files)

abbrev pub decreases-loop-file : goal.decreases-loop-file
decreases-loop-file g l = length l.rest

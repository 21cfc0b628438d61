use Rattle.std.proofs.Common.{◌-◌, map}
use Rattle.yspec_search.specs.Search.{import_limit}
use Rattle.ylink_grammar.specs.LanguageView.{language_view}
use Rattle.yapp_search.specs.Looking.{left_of}
use Rattle.yapp_search.specs.Reading.{store}
use Rattle.yapp_search.proofs.ReadingLemmas.{names_in}
use Rattle.yapp_search.proofs.SearchingLemmas.{SearchedSoFar}
use Rattle.yapp_search.proofs.finding.search_on.Given as goal

abbrev pub invariant-loop-count : goal.invariant-loop-count
invariant-loop-count g l = SearchedSoFar (language_view l.language) (names_in l.folders) (left_of (language_view l.language) (names_in l.folders) import_limit l.fn.sought)
    l.count l.sought (store g.F.Files.contents g.F.Files.reads g.F.Files.failures l.fn.files) (store g.F.Files.contents g.F.Files.reads g.F.Files.failures l.files)

abbrev pub decreases-loop-count : goal.decreases-loop-count
decreases-loop-count g l = import_limit - l.count

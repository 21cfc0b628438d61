use Rattle.std.proofs.Common.{drop}
use Rattle.yapp_search.specs.Reading.{store}
use Rattle.yapp_search.proofs.ReadingLemmas.{ReadSoFar, names_in, texts_in}
use Rattle.yapp_search.proofs.asking.read_all.Given as goal

abbrev pub invariant-loop-name : goal.invariant-loop-name
invariant-loop-name g l = ReadSoFar (store g.F.Files.contents g.F.Files.reads g.F.Files.failures l.fn.files)
    (store g.F.Files.contents g.F.Files.reads g.F.Files.failures l.files) (names_in l.names) (names_in (drop l.name-index l.names)) (texts_in l.texts.items)

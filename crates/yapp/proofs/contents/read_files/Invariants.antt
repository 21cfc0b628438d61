use Rattle.std.proofs.Common.{◌≡◌, ◌+◌, drop, length}
use Rattle.yspec.specs.text.Text.{Text}
use Rattle.yapp.proofs.ContentsLemmas.{ReadSoFar, names_in, texts_in}
use Rattle.yapp.proofs.contents.read_files.Given as goal

abbrev pub invariant-loop-name : goal.invariant-loop-name
invariant-loop-name g l = record {
  so_far : ReadSoFar (g.F.Files.contents l.fn.files) (names_in l.names) (names_in (drop l.name-index l.names)) (texts_in l.contents.items);
  kept : (other : Text) → g.F.Files.contents l.files other ≡ g.F.Files.contents l.fn.files other;
  reads : g.F.Files.reads l.files ≡ g.F.Files.reads l.fn.files + length l.contents.items;
  counted : g.F.Files.failures l.files ≡ g.F.Files.failures l.fn.files;
}

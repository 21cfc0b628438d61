use Rattle.std.proofs.Common.{refl}
use Rattle.std.proofs.lemmas.Str.{IsCharBoundary-after_ascii}
use Rattle.ytext.proofs.scan.behind_ascii.Goals as goal

pub returns : goal.returns
returns c = record {
  next = refl;
  place = IsCharBoundary-after_ascii c.args.text.now c.args.at c.utf8.text c.requires.within c.requires.ascii;
}

use Rattle.std.proofs.Common.{refl}
use Rattle.yspec.proofs.LiteralLemmas.{yspec_on_literals}
use Rattle.ysay_circles.specs.References as references
use Rattle.ysay_circles.proofs.examples.imports_back.Goals as goal

pub returns : goal.returns
unfolding yspec_on_literals references.of_line
returns c = record {
  back = refl;
  elsewhere = refl;
  alone = refl;
}

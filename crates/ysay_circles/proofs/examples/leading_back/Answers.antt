use Rattle.std.proofs.Common.{refl}
use Rattle.yspec.proofs.LiteralLemmas.{yspec_on_literals}
use Rattle.ysay_circles.specs.References as references
use Rattle.ysay_circles.proofs.examples.leading_back.Goals as goal

pub returns : goal.returns
unfolding yspec_on_literals references.of_line
returns c = record {
  of_two = refl;
  from_the_other = refl;
  onto_one = refl;
  itself = refl;
  identities = refl;
  typedefs = refl;
}

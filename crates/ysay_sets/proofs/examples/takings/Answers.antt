use Rattle.std.proofs.Common.{refl}
use Rattle.yspec.proofs.LiteralLemmas.{yspec_on_literals}
use Rattle.ysay_text.specs.Near.{is_near, nearest}
use Rattle.ysay_sets.specs.Taken as taken
use Rattle.ysay_sets.specs.Imports as imports
use Rattle.ysay_sets.proofs.examples.takings.Goals as goal

pub returns : goal.returns
unfolding yspec_on_literals is_near nearest taken.of_line imports.of_line
returns c = record {
  around = refl;
  first = refl;
  of_another_kind = refl;
  later = refl;
  built_in = refl;
  of_one_line = refl;
  given_twice = refl;
  given_once = refl;
}

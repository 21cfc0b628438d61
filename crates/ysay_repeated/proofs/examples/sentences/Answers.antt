use Rattle.std.proofs.Common.{refl}
use Rattle.json.proofs.OnLiterals.{json_on_literals}
use Rattle.yspec.proofs.LiteralLemmas.{yspec_on_literals}
use Rattle.ysay_repeated.specs.Repeated.{repeated_in}
use Rattle.ysay_repeated.proofs.examples.sentences.Goals as goal

pub returns : goal.returns
unfolding yspec_on_literals json_on_literals repeated_in
returns c = record {
  of_a_leaf = refl;
  at_the_top = refl;
}

use Rattle.std.proofs.Common.{refl}
use Rattle.yspec.proofs.LiteralLemmas.{yspec_on_literals}
use Rattle.ysay_value.proofs.examples.broken_texts.Goals as goal

pub returns : goal.returns
unfolding yspec_on_literals
returns c = record { first = refl; inverted = refl; length = refl; only_one = refl; of_a_union = refl; number = refl }

use Rattle.std.proofs.Common.{refl}
use Rattle.yspec.proofs.LiteralLemmas.{yspec_on_literals}
use Rattle.ysay_value.proofs.examples.taken_texts.Goals as goal

pub returns : goal.returns
unfolding yspec_on_literals
returns c = record { any = refl; one = refl; several = refl; quoted = refl }

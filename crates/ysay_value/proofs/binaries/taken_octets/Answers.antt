use Rattle.std.proofs.Common.{refl}
use Rattle.yspec.proofs.LiteralLemmas.{yspec_on_literals}
use Rattle.ysay_value.proofs.binaries.taken_octets.Goals as goal

pub returns : goal.returns
unfolding yspec_on_literals
returns c = record { any = refl; few = refl }

use Rattle.std.proofs.Common.{refl}
use Rattle.yspec.proofs.LiteralLemmas.{yspec_on_literals}
use Rattle.ysay_pattern.specs.Stop.{stop_from}
use Rattle.ysay_pattern.specs.Said.{of_line}
use Rattle.ysay_pattern.proofs.examples.sentences.Goals as goal

pub returns : goal.returns
unfolding yspec_on_literals stop_from of_line
returns c = record { character = refl; end = refl; first = refl; none = refl; elsewhere = refl }

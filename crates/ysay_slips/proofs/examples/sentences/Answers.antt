use Rattle.std.proofs.Common.{refl}
use Rattle.yspec.proofs.LiteralLemmas.{yspec_on_literals}
use Rattle.ysay_slips.specs.Walk.{walk_from}
use Rattle.ysay_slips.specs.Said.{of_slip}
use Rattle.ysay_slips.proofs.examples.sentences.Goals as goal

pub returns : goal.returns
unfolding yspec_on_literals walk_from of_slip
returns c = record { semicolon = refl; string = refl; plus = refl; no_plus = refl; closed = refl; keyword = refl; quoted = refl; other = refl }

use Rattle.std.proofs.Common.{refl}
use Rattle.yspec.proofs.LiteralLemmas.{yspec_on_literals}
use Rattle.ysay_slips.specs.Walk.{walk_from}
use Rattle.ysay_slips.specs.Said.{of_slip}
use Rattle.ysay_slips.proofs.examples.blocks.Goals as goal

pub returns : goal.returns
unfolding yspec_on_literals walk_from of_slip
returns c = record { behind = refl; too_many = refl; innermost = refl; doubted = refl; in_one_line = refl; nothing = refl; too_soon = refl }

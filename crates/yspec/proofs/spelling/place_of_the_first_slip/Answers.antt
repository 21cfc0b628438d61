use Rattle.yspec.proofs.TextProofs.SlipPlaceLemmas.{first_slip_place}
use Rattle.yspec.proofs.spelling.place_of_the_first_slip.Goals as goal

pub returns : goal.returns
returns c = first_slip_place

use Rattle.std.proofs.Common.{refl}
use Rattle.yspec_run.proofs.ProgramLiterals.{yprogram_on_literals}
use Rattle.yspec_examples.proofs.linking.ranges_and_lengths.Goals as goal

pub returns : goal.returns
unfolding yprogram_on_literals
returns c = record { two = refl; three = refl; point = refl; far_out = refl; no_digit = refl; zero_in_front = refl; three_bounds = refl; no_part = refl }

use Rattle.std.proofs.Common.{refl}
use Rattle.yspec_run.proofs.ProgramLiterals.{yprogram_on_literals}
use Rattle.yspec_examples.proofs.scopes.circles_of_edges.Goals as goal

pub returns : goal.returns
unfolding yprogram_on_literals
returns c = record { alone = refl; into_and_out = refl; between = refl; two_ways = refl; in_any_order = refl }

use Rattle.std.proofs.Common.{refl}
use Rattle.yspec_run.proofs.ProgramLiterals.{yprogram_on_literals}
use Rattle.yspec_examples.proofs.commands.unions_that_refer.Goals as goal

pub returns : goal.returns
unfolding yprogram_on_literals
returns c = record {
  in_the_core = refl;
  by_a_leafref = refl;
  by_another = refl;
  to_an_instance = refl;
  explained = refl;
  nowhere = refl;
  on_a_circle = refl;
}

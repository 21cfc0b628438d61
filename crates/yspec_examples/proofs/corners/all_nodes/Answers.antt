use Rattle.std.proofs.Common.{refl}
use Rattle.yspec_run.proofs.ProgramLiterals.{yprogram_on_literals}
use Rattle.yspec_examples.proofs.corners.all_nodes.Goals as goal

pub returns : goal.returns
unfolding yprogram_on_literals
returns c = record {
  counted_before = refl;
  made = refl;
  most = λ p. refl;
  one_more = λ p. refl;
  told = λ s below plan few fit named well many. rw few (rw fit (rw named (rw well (rw many refl))));
}

use Rattle.std.proofs.Common.{refl}
use Rattle.yspec_run.proofs.ProgramLiterals.{yprogram_on_literals}
use Rattle.yspec_examples.proofs.commands.unjudged.Goals as goal

pub returns-clause-both : goal.returns-clause-both
unfolding yprogram_on_literals
returns-clause-both c = refl

pub returns-clause-musts : goal.returns-clause-musts
unfolding yprogram_on_literals
returns-clause-musts c = refl

pub returns-clause-whens : goal.returns-clause-whens
unfolding yprogram_on_literals
returns-clause-whens c = refl

pub returns-clause-none : goal.returns-clause-none
unfolding yprogram_on_literals
returns-clause-none c = refl

use Rattle.std.proofs.Common.{refl}
use Rattle.yspec_run.specs.Output.{outcome}
use Rattle.yspec_run.specs.Unjudged.{outcome_said}
use Rattle.yspec_run.proofs.unjudged.all_are_judged.Goals as goal

pub returns : goal.returns
unfolding outcome outcome_said
returns c = record {
  compiled = λ modules answers. refl;
  validated = λ options document modules answers. refl;
  edited = λ options document script modules answers. refl;
  with_features = λ choosings options document modules answers. refl;
}

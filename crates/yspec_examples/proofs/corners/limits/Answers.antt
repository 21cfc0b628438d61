use Rattle.std.proofs.Common.{refl}
use Rattle.yspec_run.proofs.ProgramLiterals.{yprogram_on_literals}
use Rattle.yspec_examples.proofs.corners.limits.Goals as goal

pub returns : goal.returns
unfolding yprogram_on_literals
returns c = record {
  documents = refl;
  nodes = refl;
  levels = refl;
  texts = refl;
  members = refl;
  as_many_members = λ types h. rw h refl;
  more_members = λ types h. rw h refl;
  members_told = λ s. refl;
  longest_identifier = refl;
  too_long_identifier = refl;
  deepest = refl;
  too_deep = refl;
  last_module = λ s t below inner. refl;
  before_names = λ s below plan h. rw h refl;
  behind_defaults = refl;
}

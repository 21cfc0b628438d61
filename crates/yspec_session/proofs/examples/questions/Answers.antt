use Rattle.std.proofs.Common.{refl}
use Rattle.yspec.proofs.LiteralLemmas.{yspec_on_literals}
use Rattle.yspec_session.proofs.examples.questions.Goals as goal

pub returns : goal.returns
unfolding yspec_on_literals
returns c = record { pages = refl; within = refl; above_nothing = refl; refused_places = refl; unknown_lines = refl }

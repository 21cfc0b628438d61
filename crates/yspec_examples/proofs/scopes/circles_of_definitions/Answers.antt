use Rattle.std.proofs.Common.{refl}
use Rattle.yspec_run.proofs.ProgramLiterals.{yprogram_on_literals}
use Rattle.yspec_examples.proofs.scopes.circles_of_definitions.Goals as goal

pub returns : goal.returns
unfolding yprogram_on_literals
returns c = record { a_typedef = refl; two_typedefs = refl; a_member = refl; a_grouping = refl; an_inner_grouping = refl; used_in_its_body = refl }

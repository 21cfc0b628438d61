use Rattle.std.proofs.Common.{refl}
use Rattle.yspec_run.proofs.ProgramLiterals.{yprogram_on_literals}
use Rattle.yspec_examples.proofs.augments.added_nodes.Goals as goal

pub returns : goal.returns
unfolding yprogram_on_literals
returns c = record { last = refl; of_its_own_module = refl; one_name_in_two_modules = refl; one_name_twice = refl; state = refl; types = refl; single_nodes = refl; cases = refl; added_cases = refl; used = refl; refined = refl; cases_of_one_name = refl; one_case_twice = refl }

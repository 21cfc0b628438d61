use Rattle.std.proofs.Common.{refl}
use Rattle.yspec_run.proofs.ProgramLiterals.{yprogram_on_literals}
use Rattle.yspec_examples.proofs.modules.nodes_of_lines.Goals as goal

pub returns : goal.returns
unfolding yprogram_on_literals
returns c = record { implied_case = refl; hexadecimal = refl; state_list = refl; nothing = refl }

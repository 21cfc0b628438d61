use Rattle.std.proofs.Common.{refl}
use Rattle.yspec_run.proofs.ProgramLiterals.{yprogram_on_literals}
use Rattle.yspec_examples.proofs.documents.choices.Goals as goal

pub returns : goal.returns
unfolding yprogram_on_literals
returns c = record { two_cases = refl; no_case = refl; third_entry = refl; default_case = refl }

use Rattle.std.proofs.Common.{refl}
use Rattle.yspec_run.proofs.ProgramLiterals.{yprogram_on_literals}
use Rattle.yspec_examples.proofs.scopes.imports.Goals as goal

pub returns : goal.returns
unfolding yprogram_on_literals
returns c = record { met = refl; met_before = refl; missing = refl; newest = refl; older = refl; undated = refl; prefix_twice = refl; own_prefix_behind = refl; module_twice = refl }

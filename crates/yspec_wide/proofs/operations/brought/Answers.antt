use Rattle.std.proofs.Common.{refl}
use Rattle.yspec_wide.proofs.WideLiterals.{ywide_on_literals}
use Rattle.yspec_wide.proofs.operations.brought.Goals as goal

pub returns : goal.returns
unfolding ywide_on_literals
returns c = record { tops = refl; cases = refl; operations = refl; lists = refl; with_names = refl; off = refl }

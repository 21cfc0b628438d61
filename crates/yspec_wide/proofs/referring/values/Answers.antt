use Rattle.std.proofs.Common.{refl}
use Rattle.yspec_wide.proofs.WideLiterals.{ywide_on_literals}
use Rattle.yspec_wide.proofs.referring.values.Goals as goal

pub returns : goal.returns
unfolding ywide_on_literals
returns c = record { of_one = refl; not_required = refl; of_two = refl; to_a_union = refl; to_such_a_union = refl; by_default = refl }

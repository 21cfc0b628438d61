use Rattle.std.proofs.Common.{refl}
use Rattle.yspec_wide.proofs.WideLiterals.{ywide_on_literals}
use Rattle.yspec_wide.proofs.standing.refused.Goals as goal

pub returns : goal.returns
unfolding ywide_on_literals
returns c = record { name_twice = refl; leafref = refl; key_with_a_condition = refl; marked_default = refl; mandatory_in_what_is_off = refl }

use Rattle.std.proofs.Common.{refl}
use Rattle.yspec_wide.proofs.WideLiterals.{ywide_on_literals}
use Rattle.yspec_wide.proofs.expressions.refused.Goals as goal

pub returns : goal.returns
unfolding ywide_on_literals
returns c = record { words_missing = refl; parentheses = refl; long = λ tokens more. rw more refl; of_yang_1 = refl }

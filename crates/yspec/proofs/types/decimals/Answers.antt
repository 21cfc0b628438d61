use Rattle.std.proofs.Common.{refl}
use Rattle.yspec.proofs.LiteralLemmas.{yspec_on_literals}
use Rattle.yspec.proofs.types.decimals.Goals as goal

pub returns-clause-leading_zeros : goal.returns-clause-leading_zeros
unfolding yspec_on_literals
returns-clause-leading_zeros c = refl

pub returns-clause-whole : goal.returns-clause-whole
unfolding yspec_on_literals
returns-clause-whole c = refl

pub returns-clause-no_sign_of_zero : goal.returns-clause-no_sign_of_zero
unfolding yspec_on_literals
returns-clause-no_sign_of_zero c = refl

pub returns-clause-inner_zero : goal.returns-clause-inner_zero
unfolding yspec_on_literals
returns-clause-inner_zero c = refl

pub returns-clause-greatest_of_one_digit : goal.returns-clause-greatest_of_one_digit
unfolding yspec_on_literals
returns-clause-greatest_of_one_digit c = refl

use Rattle.std.proofs.Common.{refl}
use Rattle.yspec_run.proofs.ProgramLiterals.{yprogram_on_literals}
use Rattle.yspec_examples.proofs.linking.numbers_and_words.Goals as goal

pub returns : goal.returns
unfolding yprogram_on_literals
returns c = record { date = refl; short_date = refl; status = refl; order = refl; none = refl; leading_zero = refl; most = refl; too_many = refl; unbounded = refl; at_most_three = refl; at_most_none = refl; value = refl; low_value = refl; minus_zero = refl; plus = refl; digits = refl; too_many_digits = refl }

use Rattle.std.specs.Prelude.{refl}
use Rattle.yspec.proofs.LiteralLemmas.{yspec_on_literals}
use Rattle.yspec.proofs.types.restricted_names.Goals as goal

pub returns : goal.returns
unfolding yspec_on_literals
returns c = record { number_kept = refl; number_said = refl; named_no_more = refl; order_of_numbers = refl; none_of_these = refl; another_number = refl; named_twice = refl; of_one_that_is_gone = refl; again = refl; bits_by_position = refl; bit_named_no_more = refl; another_position = refl; bits_of_enums = refl; enums_of_bits = refl; of_a_number = refl }

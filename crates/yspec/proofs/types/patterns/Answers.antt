use Rattle.std.specs.Prelude.{refl}
use Rattle.yspec.proofs.LiteralLemmas.{yspec_on_literals}
use Rattle.yspec.proofs.types.patterns.Goals as goal

pub returns : goal.returns
unfolding yspec_on_literals
returns c = record { digits = refl; too_long = refl; no_digits = refl; digits_in_front = refl; empty = refl; name = refl; no_name = refl; inverted = refl; first = refl; of_no_text = refl; of_a_default = refl; wider_length = refl; of_a_number = refl; of_a_union = refl }

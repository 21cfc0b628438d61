use Rattle.std.proofs.Common.{refl}
use Rattle.yspec_run.proofs.ProgramLiterals.{yprogram_on_literals}
use Rattle.yspec_examples.proofs.linking.named_things.Goals as goal

pub returns : goal.returns
unfolding yprogram_on_literals
returns c = record { identifier = refl; plain = refl; prefixed = refl; two_colons = refl; relative = refl; not_relative = refl; absolute = refl; slash = refl; spaced = refl; open_end = refl; key = refl; no_key = refl; key_at_end = refl; unique = refl }

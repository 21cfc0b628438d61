use Rattle.std.proofs.Common.{refl}
use Rattle.yspec_run.proofs.ProgramLiterals.{yprogram_on_literals}
use Rattle.yspec_examples.proofs.linking.refused_statements.Goals as goal

pub returns : goal.returns
unfolding yprogram_on_literals
returns c = record { good = refl; unknown = refl; misplaced = refl; not_judged_below = refl; augment = refl; augment_inside = refl; type_outside = refl; too_many = refl; too_few = refl; missing = refl; wrong_form = refl; no_version = refl; other_version = refl; extended = refl; extension = refl; extension_below = refl; submodule = refl; extended_top = refl; second = refl }

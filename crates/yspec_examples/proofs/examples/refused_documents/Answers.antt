use Rattle.std.proofs.Common.{refl}
use Rattle.yspec_run.proofs.ProgramLiterals.{yprogram_on_literals}
use Rattle.yspec_examples.proofs.examples.refused_documents.Goals as goal

pub returns : goal.returns
unfolding yprogram_on_literals
returns c = record { no_json = refl; no_object = refl; unknown = refl; unqualified = refl; qualified = refl; wrong_kind = refl; fraction = refl }

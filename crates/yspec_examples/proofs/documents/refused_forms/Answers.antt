use Rattle.std.proofs.Common.{refl}
use Rattle.yspec_run.proofs.ProgramLiterals.{yprogram_on_literals}
use Rattle.yspec_examples.proofs.documents.refused_forms.Goals as goal

pub returns : goal.returns
unfolding yprogram_on_literals
returns c = record { qualified_list = refl; unqualified_top = refl; fraction = refl; no_bytes = refl; no_object = refl; unknown = refl; no_array = refl; no_entry = refl; choice_is_no_member = refl }

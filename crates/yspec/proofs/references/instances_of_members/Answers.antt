use Rattle.std.specs.Prelude.{refl}
use Rattle.yspec.proofs.LiteralLemmas.{yspec_on_literals}
use Rattle.yspec.proofs.references.instances_of_members.Goals as goal

pub returns : goal.returns
unfolding yspec_on_literals
returns c = record { none = refl; one = refl; of_another_node = refl; of_another_member = refl; of_its_own_member = refl; not_required = refl; of_no_leafref = refl }

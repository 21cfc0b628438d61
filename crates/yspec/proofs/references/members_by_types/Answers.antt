use Rattle.std.specs.Prelude.{refl}
use Rattle.yspec.proofs.LiteralLemmas.{yspec_on_literals}
use Rattle.yspec.proofs.references.members_by_types.Goals as goal

pub returns : goal.returns
unfolding yspec_on_literals
returns c = record { before_it = refl; by_its_first = refl; by_its_second = refl; by_one_alone = refl; behind_all = refl }
